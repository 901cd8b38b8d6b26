use Rattle.std.proofs.Common.{◌≡◌, map, take}
use Rattle.hx_rules.specs.Legal.{found_backup}
use Rattle.hx_core.specs.Opens.{AreFirst}
use Rattle.hx_core.specs.ListedDone.{PlacedBelow}
use Rattle.hx_core.proofs.opening.first_resources.Given as goal

abbrev pub invariant-loop-i : goal.invariant-loop-i
invariant-loop-i l = record {
  restored : l.restored.items ≡ map (λ name. found_backup name l.base) (take l.i l.names);
  first : AreFirst l.resources.items l.restored.items;
  placed : PlacedBelow l.names l.i;
}

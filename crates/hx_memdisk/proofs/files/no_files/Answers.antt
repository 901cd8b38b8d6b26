use Rattle.std.proofs.Common.{rules, refl, ◌≡◌, [], length}
use Rattle.hx_memdisk.specs.Kept.{IsAfter}
use Rattle.hx_memdisk.specs.declared.kept.Kept.{Kept}
use Rattle.hx_memdisk.proofs.Steps.{fresh, each_more}
use Rattle.hx_memdisk.proofs.files.no_files.Goals as goal

pub loop-preserved : goal.loop-preserved
loop-preserved c =
    let long : length c.loop.files.items ≡ c.loop.counter = search rules in
    record {
      len = search rules;
      each = each_more (λ n (k : Kept). IsAfter [] n k) _ _ _ _ long c.in_ok-push.ensures.items (fresh _ _ c.new.ensures.bytes c.new.ensures.stat c.new.ensures.stable) c.loop.invariant.each;
    }

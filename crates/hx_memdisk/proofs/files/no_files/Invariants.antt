use Rattle.std.proofs.Common.{◌≡◌, ◌<◌, ℕ, [], get_or, vec_len}
use Rattle.hx_memdisk.specs.Kept.{IsAfter}
use Rattle.hx_memdisk.specs.declared.kept.Kept.{Kept}
use Rattle.hx_memdisk.proofs.files.no_files.Given as goal

abbrev pub invariant-loop : goal.invariant-loop
invariant-loop l = record {
  len : vec_len l.files ≡ l.counter;
  each : (f : ℕ) (d : Kept) → f < l.counter → IsAfter [] f (get_or l.files.items f d);
}

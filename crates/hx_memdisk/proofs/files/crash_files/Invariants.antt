use Rattle.std.proofs.Common.{◌≡◌, ◌<◌, ◌≤◌, ℕ, get_or, vec_len}
use Rattle.hx_memdisk.specs.Kept.{HasLeft}
use Rattle.hx_memdisk.specs.declared.kept.Kept.{Kept}
use Rattle.hx_memdisk.proofs.files.crash_files.Given as goal

abbrev pub invariant-loop-i : goal.invariant-loop-i
invariant-loop-i l = record {
  len : vec_len l.files ≡ vec_len l.fn.files;
  crashed : (f : ℕ) (d : Kept) → f < l.i → HasLeft l.pick (get_or l.fn.files.items f d) (get_or l.files.items f d);
  others : (f : ℕ) (d : Kept) → l.i ≤ f → get_or l.files.items f d ≡ get_or l.fn.files.items f d;
}

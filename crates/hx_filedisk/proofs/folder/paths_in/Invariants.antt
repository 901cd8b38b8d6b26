use Rattle.std.specs.Prelude.{◌≡◌, vec_len}
use Rattle.hx_filedisk.proofs.folder.paths_in.Given as goal

abbrev pub invariant-loop-number : goal.invariant-loop-number
invariant-loop-number l = vec_len l.paths ≡ l.number-counter

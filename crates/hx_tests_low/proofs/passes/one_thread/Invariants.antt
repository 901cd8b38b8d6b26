use Rattle.std.proofs.Common.{◌≡◌, ◌%◌, length}
use Rattle.hx_tests_low.proofs.passes.one_thread.Given as goal

-- nothing is due where there is an even number of entries
abbrev pub ghosts-by_hand : goal.ghosts-by_hand
ghosts-by_hand g a = record { table = a.opened.table; before = a.opened.before; parts = a.opened.parts; windows = a.opened.windows; says = λ finding h. (length h % 2) ≡ 0 }

use Rattle.std.proofs.Common.{◌≡◌, ◌%◌, length}
use Rattle.hx_tests_low.proofs.passes.two_threads.Given as goal

abbrev pub ghosts-by_two : goal.ghosts-by_two
ghosts-by_two g a = record { table = a.opened.table; before = a.opened.before; parts = a.opened.parts; windows = a.opened.windows; says = λ finding h. (length h % 2) ≡ 0 }

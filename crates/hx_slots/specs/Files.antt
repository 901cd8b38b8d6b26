-- The numbers of the slot files. They are this project's own.
use Rattle.std.specs.Prelude.{ℕ, ◌+◌, ◌*◌}
use Rattle.hx_events.specs.declared.backup.Side.{Side}
use Rattle.hx_events.specs.declared.backup.Side.TheVariants.{A, B}

abbrev pub file_of : ℕ → Side → ℕ
file_of pair A = 2 * pair
file_of pair B = 2 * pair + 1

-- Which texts name a resource. The limit and the opaque form are this project's own; VS Code has a URI there.
use Rattle.std.specs.Prelude.{ℕ, Bool, ◌&&◌, nat_le, List, length}
use Rattle.std.specs.Char.{is_ascii_graphic}
use Rattle.std.specs.List.{list_all}

-- a resource: 1 to 1,000 printable bytes without a blank
abbrev pub is_resource : List ℕ → Bool
is_resource text = nat_le 1 (length text) && nat_le (length text) 1000 && list_all is_ascii_graphic text

-- The stat that a copy keeps, where the file may be missing.
use Rattle.std.specs.Prelude.{Option, Some, None}
use Rattle.hx_etag.specs.Conflicts.{newer_of}
use Rattle.hx_etag.specs.declared.stat.Stat.{Stat}

-- of two stats the newer one, and the base where there is no file
abbrev pub newer_found : Option Stat → Option Stat → Option Stat
newer_found base None = base
newer_found base (Some found) = Some (newer_of base found)

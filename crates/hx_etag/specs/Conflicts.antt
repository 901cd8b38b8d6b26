-- When a save meets a file that another program changed, and which of two stats an editor keeps.
use Rattle.std.specs.Prelude.{Bool, false, not, ◌&&◌, ◌==◌, nat_lt, nat_le, if◌then◌else◌, Option, Some, None, bytes_eq}
use Rattle.hx_etag.specs.declared.stat.Stat.{Stat}
use Rattle.hx_etag.specs.Etags.{etag_of}

-- The file has a later time and another size than the stat that the editor last read. That these two are enough for a
-- conflict, without a look at the bytes, is this project's own.
abbrev pub conflict : Option Stat → Option Stat → Bool
conflict (Some base) (Some found) = nat_lt base.mtime found.mtime && not (base.size == found.size)
conflict (Some base) None = false
conflict None found = false

-- The same as VS Code tests it, before it writes a file: the known time is earlier than the found one, and the known
-- etag isn't that of the known time with the found size.
abbrev pub modified_since : Option Stat → Option Stat → Bool
modified_since (Some base) (Some found) =
    nat_lt base.mtime found.mtime && not (bytes_eq (etag_of base) (etag_of (record { mtime = base.mtime; size = found.size })))
modified_since (Some base) None = false
modified_since None found = false

-- The stat that a model keeps after it learns of another: that one where its time is equal or later. VS Code keeps the
-- last resolved stat likewise; the exact form is this project's own.
abbrev pub newer_of : Option Stat → Stat → Stat
newer_of None found = found
newer_of (Some base) found = if nat_le base.mtime found.mtime then found else base

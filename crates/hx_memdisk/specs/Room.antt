-- The room that a disk in memory keeps in its files.
use Rattle.std.specs.Prelude.{◌<◌, ℕ, List, length, slice_index_or}
use Rattle.hx_memdisk.specs.Kept.{Takes}
use Rattle.hx_memdisk.specs.declared.kept.Kept.{Kept}

-- the file of this number takes so many bytes
abbrev pub FileTakes : ℕ → ℕ → List Kept → Type 0
FileTakes file end files = (d : Kept) → file < length files → Takes end (slice_index_or files file d)

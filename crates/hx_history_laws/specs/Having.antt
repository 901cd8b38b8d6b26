-- What whatever a crash leaves has of a history: its entries, and nothing else.
use Rattle.std.specs.Prelude.{◌⊎◌, ℕ, List}
use Rattle.hx_disk.specs.Disk.{IsDiskImage}
use Rattle.hx_disk.specs.File.{FileState}
use Rattle.hx_restore.specs.Values.{pair_value}
use Rattle.hx_history_laws.specs.declared.entry.HistoryEntry.{HistoryEntry}
use Rattle.hx_history_laws.specs.Entries.{AreEntries}
use Rattle.hx_history_laws.specs.Kept.{last_50}
use Rattle.hx_history_laws.specs.Placed.{ArePlaced, AreHeld, held_entries}

-- Each of the image's 64 pairs holds one of some entries or nothing: at most 51, whose numbers follow each other, each in a pair of its own.
pub record HoldsEntries (image : ℕ → List ℕ) : Type 0 where
  pub entries : List HistoryEntry
  pub places : List ℕ
  pub most : ℕ
  pub placed : ArePlaced entries places most
  pub held : AreHeld entries places (pair_value image)

-- Whatever a crash leaves of these files has these entries, and its pairs hold nothing else.
abbrev pub HaveEntries : List HistoryEntry → (ℕ → FileState) → Type 0
HaveEntries es files = (image : ℕ → List ℕ) → IsDiskImage files image → AreEntries image es × HoldsEntries image

-- Whatever a crash leaves of these files has these entries or those, and its pairs hold nothing else.
abbrev pub HaveEither : List HistoryEntry → List HistoryEntry → (ℕ → FileState) → Type 0
HaveEither es fs files = (image : ℕ → List ℕ) → IsDiskImage files image → (AreEntries image es ⊎ AreEntries image fs) × HoldsEntries image

pub held_all : (es : List HistoryEntry) (places : List ℕ) (most : ℕ) → ArePlaced es places most → (image : ℕ → List ℕ) → AreHeld es places (pair_value image) → AreEntries image (last_50 es) × HoldsEntries image
held_all es places most placed image held = (held_entries es places most placed image held, record { entries = es; places = places; most = most; placed = placed; held = held })

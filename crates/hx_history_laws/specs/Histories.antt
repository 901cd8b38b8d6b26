-- When what a crash leaves is a history again.
use Rattle.std.specs.Prelude.{◌≡◌, ◌<◌, ◌≤◌, ◌+◌, ◌-◌, ◌*◌, ◌^◌, ℕ, Bool, true, false, bytes_eq, if◌then◌else◌, List, [], length, Option, Some, None, refl}
use Rattle.std.proofs.Common.{sym, ◌∙◌, ap, subst, ⊎_elim, arith}
use Rattle.std.proofs.lemmas.Bool.{cases_lt}
use Rattle.std.proofs.lemmas.Slice.Eq.{bytes_eq-Decides}
use Rattle.hx_disk.specs.Disk.{IsDiskImage}
use Rattle.hx_disk.specs.File.{FileState}
use Rattle.hx_events.specs.declared.backup.Backup.{Backup}
use Rattle.hx_events.specs.declared.backup.PairFound.TheVariants.{Empty, Found}
use Rattle.hx_events.specs.declared.backup.Side.{Side}
use Rattle.hx_events.specs.declared.backup.Side.TheVariants.{A, B}
use Rattle.hx_lives.specs.CrashSafe.{found_at}
use Rattle.hx_restore.specs.Laws.{no_twin}
use Rattle.hx_restore.specs.Values.{Silent, backup_for, earlier_of, found_by, holds_for, pair_value, restored, side_of, value_of}
use Rattle.hx_restore.specs.declared.value.PairValue.{PairValue}
use Rattle.hx_restore.specs.declared.value.PairValue.TheVariants.{Nothing, Broken, Held}
use Rattle.hx_slots.specs.Files.{file_of}
use Rattle.hx_slots.specs.Frames.{Frame, shown_in}
use Rattle.hx_slots.specs.Raws.{greatest_stamp, stamp_of}
use Rattle.hx_vault.specs.Scans.{no_greater_stamp}
use Rattle.hx_pairs.specs.OnePair.{Reads}
use Rattle.hx_pairs.specs.Opened.{held_counts}
use Rattle.hx_pairs.specs.Words.{at_place}
use Rattle.hx_history_laws.specs.Entries.{AreEntries, backup_of_entry, entry_at}
use Rattle.hx_history_laws.specs.Having.{HaveEntries, HoldsEntries, held_all}
use Rattle.hx_history_laws.specs.Opening.{HasHistory}
use Rattle.hx_history_laws.specs.Placed.{ArePlaced, IsUnplaced, elsewhere, place_at}
use Rattle.hx_history_laws.specs.Stamps.{AreNumbered, NoneAbove, none_shown_above}

-- Whatever a crash leaves of these files is a history, and its entries' numbers are at most the stamps beside them.
abbrev pub AreHistories : (ℕ → FileState) → Type 0
AreHistories files = (image : ℕ → List ℕ) → IsDiskImage files image → HasHistory image × AreNumbered image

-- Whatever a crash leaves of these files shows nothing in any slot file.
abbrev pub HasEmptyVault : (ℕ → FileState) → Type 0
HasEmptyVault files = (image : ℕ → List ℕ) → IsDiskImage files image → (p : ℕ) (side : Side) → p < 64 → shown_in (image (file_of p side)) ≡ None

-- A vault in which nothing shows is a history, of no entry.
abbrev pub EmptyVault : Type 0
EmptyVault = (files : ℕ → FileState) → HasEmptyVault files → AreHistories files × HaveEntries [] files × NoneAbove 0 files

-- ---- proofs

-- a pair that holds a backup shows its frame
held_shows : (image : ℕ → List ℕ) (p : ℕ) (side : Side) (backup : Backup) → pair_value image p ≡ Held backup side → (frame : Frame) × (shown_in (image (file_of p side)) ≡ Some frame) × Reads frame backup
unfolding pair_value
held_shows image p A backup h = let c = held_counts (shown_in (image (2 * p))) (shown_in (image (2 * p + 1))) backup A h in (c.frame, c.is, c.reads)
held_shows image p B backup h = let c = held_counts (shown_in (image (2 * p))) (shown_in (image (2 * p + 1))) backup B h in (c.frame, c.is, c.reads)

shown_below : (image : ℕ → List ℕ) (p : ℕ) (side : Side) (frame : Frame) → p < 64 → shown_in (image (file_of p side)) ≡ Some frame → frame.stamp ≤ greatest_stamp image
shown_below image p A frame below shows = subst (λ (x : Option Frame). stamp_of x ≤ greatest_stamp image) shows (no_greater_stamp image p below).0
shown_below image p B frame below shows = subst (λ (x : Option Frame). stamp_of x ≤ greatest_stamp image) shows (no_greater_stamp image p below).1

found_in : (image : ℕ → List ℕ) (p : ℕ) → p < 64 → found_at (restored image) p ≡ found_by (pair_value image p) (earlier_of (pair_value image) p (pair_value image p))
unfolding restored
found_in image p below = ⊎_elim (λ none. absurd (omega (arith, none.0, below))) (λ at. at.1) (at_place (pair_value image) 64 p)

no_holder : (resource : List ℕ) (v : PairValue) → backup_for resource v ≡ None → holds_for resource v ≡ false
no_holder resource Nothing none = refl
no_holder resource Broken none = refl
no_holder resource (Held b side) none = go (bytes_eq b.resource resource) none
  where
    go : (t : Bool) → (if t then Some b else None) ≡ None → t ≡ false
    go true h = absurd cc
    go false h = refl

module _ (image : ℕ → List ℕ) (holds : HoldsEntries image) (numbered : AreNumbered image) (small : greatest_stamp image < 2 ^ 64) where
  below_greatest : (i : ℕ) → i < length holds.entries → (entry_at holds.entries i).number ≤ greatest_stamp image
  below_greatest i lt =
      let h = holds.held.each i lt in
      let within = holds.placed.below i lt in
      let s = held_shows image (place_at holds.places i) h.0 (backup_of_entry (entry_at holds.entries i)) h.1 in
      let fits : (entry_at holds.entries i).number < 2 ^ 64 = omega (arith, holds.placed.numbers i lt, holds.placed.greatest, holds.placed.small, lt) in
      let at_most = numbered (place_at holds.places i) h.0 s.0 within s.1 (entry_at holds.entries i) fits s.2 in
      let shown = shown_below image (place_at holds.places i) h.0 s.0 within s.1 in
      omega (arith, at_most, shown)

  placed_in : ArePlaced holds.entries holds.places (greatest_stamp image)
  placed_in = ⊎_elim
      (λ some. placed_from holds.placed.first holds.placed.numbers holds.placed.some
      (let b = below_greatest (length holds.entries - 1) (omega (arith, some)) in let n = holds.placed.numbers (length holds.entries - 1) (omega (arith, some)) in let s = some in omega (arith, b, n, s)))
      (λ none. let z = none in placed_from 1 (λ i lt. absurd (omega (arith, z, lt))) (omega arith) (omega (arith, z)))
      (cases_lt 0 (length holds.entries))
    where
      placed_from : (first : ℕ) → ((i : ℕ) → i < length holds.entries → (entry_at holds.entries i).number ≡ first + i) → 1 ≤ first → first + length holds.entries ≤ greatest_stamp image + 1 → ArePlaced holds.entries holds.places (greatest_stamp image)
      placed_from first numbers some greatest = record {
        first = first;
        numbers = numbers;
        some = some;
        greatest = greatest;
        small = small;
        few = holds.placed.few;
        count = holds.placed.count;
        below = holds.placed.below;
        apart = holds.placed.apart;
      }

  found_each : (i : ℕ) → i < length holds.entries → (side : Side) × (found_at (restored image) (place_at holds.places i) ≡ Found (backup_of_entry (entry_at holds.entries i)) side)
  found_each i lt =
      let h = holds.held.each i lt in
      let p : ℕ = place_at holds.places i in
      let b : Backup = backup_of_entry (entry_at holds.entries i) in
      let alone : earlier_of (pair_value image) p (Held b h.0) ≡ None =
      no_twin b.resource (pair_value image) p
      (λ q less. no_holder b.resource (pair_value image q) (elsewhere holds.entries holds.places holds.most holds.placed image holds.held i lt q (let w = holds.placed.below i lt in omega (arith, less, w)) (λ same. omega (arith, same, less))))
      (Held b h.0) ((bytes_eq-Decides b.resource b.resource).1 refl) in
      (h.0, found_in image p (holds.placed.below i lt) ∙ ap (λ (v : PairValue). found_by v (earlier_of (pair_value image) p v)) h.1 ∙ ap (found_by (Held b h.0)) alone)

  found_others : (p : ℕ) → p < 64 → IsUnplaced p (length holds.entries) holds.places → found_at (restored image) p ≡ Empty
  found_others p below none = found_in image p below ∙ ap (λ (v : PairValue). found_by v (earlier_of (pair_value image) p v)) (holds.held.others p below none)

  -- An image whose pairs hold nothing but entries, with fitting numbers, is a history.
  pub history_in : HasHistory image
  history_in = record { entries = holds.entries; places = holds.places; is = record { placed = placed_in; each = found_each; others = found_others } }

pub are_histories : (files : ℕ → FileState) (most : ℕ) → most < 2 ^ 64 → NoneAbove most files → ((image : ℕ → List ℕ) → IsDiskImage files image → HoldsEntries image) → ((image : ℕ → List ℕ) → IsDiskImage files image → AreNumbered image) → AreHistories files
are_histories files most small none holds numbered image is =
    (history_in image (holds image is) (numbered image is) (let n = none image is in omega (arith, n, small)), numbered image is)

-- ---- an empty vault
nothing_held : (image : ℕ → List ℕ) (p : ℕ) → shown_in (image (2 * p)) ≡ None → shown_in (image (2 * p + 1)) ≡ None → pair_value image p ≡ Nothing
unfolding pair_value
nothing_held image p a b = ap (λ (x : Option Frame). value_of (side_of x) (side_of (shown_in (image (2 * p + 1))))) a ∙ ap (λ (x : Option Frame). value_of Silent (side_of x)) b

nothing_above : (image : ℕ → List ℕ) → ((p : ℕ) (side : Side) → p < 64 → shown_in (image (file_of p side)) ≡ None) → greatest_stamp image ≤ 0
unfolding greatest_stamp
nothing_above image silent = none_shown_above (λ p. image (2 * p)) (λ p. image (2 * p + 1)) 64 0
    (λ p lt. subst (λ (x : Option Frame). stamp_of x ≤ 0) (sym (silent p A lt)) (omega arith))
    (λ p lt. subst (λ (x : Option Frame). stamp_of x ≤ 0) (sym (silent p B lt)) (omega arith))

module _ (files : ℕ → FileState) (silent : HasEmptyVault files) where
  none_held : (image : ℕ → List ℕ) → IsDiskImage files image → AreEntries image [] × HoldsEntries image
  none_held image is = held_all [] [] 0
      (record {
        first = 1;
        numbers = λ i lt. absurd (omega (arith, lt));
        some = omega arith;
        greatest = omega arith;
        small = omega arith;
        few = omega arith;
        count = refl;
        below = λ i lt. absurd (omega (arith, lt));
        apart = λ i j lt_i lt_j same. absurd (omega (arith, lt_i));
      })
      image
      (record {
        each = λ i lt. absurd (omega (arith, lt));
        others = λ p lt none. nothing_held image p (silent image is p A lt) (silent image is p B lt);
      })

  none_shown : NoneAbove 0 files
  none_shown image is = nothing_above image (silent image is)

  none_foreign : AreHistories files
  none_foreign = are_histories files 0 (omega arith) none_shown (λ image is. (none_held image is).1)
      (λ image is p side frame lt shows. absurd (let odd : None ≡ Some frame = sym (silent image is p side lt) ∙ shows in cc))

pub empty_vault : EmptyVault
empty_vault files silent = (none_foreign files silent, none_held files silent, none_shown files silent)

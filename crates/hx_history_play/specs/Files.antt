-- What a crash may leave after a crash, and after calls that only sync: nothing that it might not have left before.
use Rattle.std.specs.Prelude.{◌≡◌, ℕ, Bool, IsTrue, List}
use Rattle.std.proofs.Common.{sym, ◌∙◌, subst, arith, ⊎_elim, inl}
use Rattle.hx_disk.specs.Disk.{IsDiskImage}
use Rattle.hx_disk.specs.File.{FileState, Crashed, IsImage, IsSound}
use Rattle.hx_disk.specs.Images.{rest_settled}
use Rattle.hx_lives.specs.Calls.{HandsBack}
use Rattle.hx_lives.specs.Course.{Past}
use Rattle.hx_lives.specs.Holds.{readings}
use Rattle.hx_history_laws.specs.declared.entry.HistoryEntry.{HistoryEntry}
use Rattle.hx_history_laws.specs.Having.{HaveEither, HaveEntries}
use Rattle.hx_history_laws.specs.Histories.{AreHistories}
use Rattle.hx_history_laws.specs.Stamps.{AreOwn, NoneAbove}

-- Whatever a crash leaves of the second files it might have left of the first.
abbrev pub HaveNoNew : (ℕ → FileState) → (ℕ → FileState) → Type 0
HaveNoNew old new = (f : ℕ) (image : List ℕ) → IsImage (new f) image → IsImage (old f) image

pub entries_carried : (es : List HistoryEntry) (old new : ℕ → FileState) → HaveNoNew old new → HaveEntries es old → HaveEntries es new
entries_carried es old new no_new have image is = have image (λ f. no_new f (image f) (is f))

pub either_carried : (es fs : List HistoryEntry) (old new : ℕ → FileState) → HaveNoNew old new → HaveEither es fs old → HaveEither es fs new
either_carried es fs old new no_new have image is = have image (λ f. no_new f (image f) (is f))

pub stamps_carried : (most : ℕ) (old new : ℕ → FileState) → HaveNoNew old new → NoneAbove most old → NoneAbove most new
stamps_carried most old new no_new none image is = none image (λ f. no_new f (image f) (is f))

pub histories_carried : (old new : ℕ → FileState) → HaveNoNew old new → AreHistories old → AreHistories new
histories_carried old new no_new are image is = are image (λ f. no_new f (image f) (is f))

pub are_own : (files : ℕ → FileState) → AreHistories files → AreOwn files
are_own files are image is = (are image is).1

-- entries are those of either list where both are the same
pub twice : (es : List HistoryEntry) (files : ℕ → FileState) → HaveEntries es files → HaveEither es es files
twice es files have image is = let h = have image is in (inl h.0, h.1)

pub once : (es : List HistoryEntry) (files : ℕ → FileState) → HaveEither es es files → HaveEntries es files
once es files have image is = let h = have image is in (⊎_elim (λ a. a) (λ b. b) h.0, h.1)

module _ {D : Type 0} (tells : Bool) (time : D → ℕ) (past : D → Past) (now : D → ℕ → FileState) (failures : D → ℕ) (present : (d : D) (f : ℕ) → past d (time d) f ≡ now d f) (sound : (d : D) (t f : ℕ) → IsTrue tells → IsSound (past d t f)) where
  pub sound_now : (d : D) (f : ℕ) → IsTrue tells → IsSound (now d f)
  sound_now d f told = subst IsSound (present d f) (sound d (time d) f told)

  -- what is read might be left
  pub readings_left : (d : D) → IsTrue tells → IsDiskImage (now d) (readings (now d))
  readings_left d told f = (sound_now d f told).reading

  pub synced_no_new : (old new : D) → HandsBack tells time past failures old new → IsTrue tells → HaveNoNew (now old) (now new)
  synced_no_new old new hands told f image is =
      subst (λ (s : FileState). IsImage s image) (hands.runs.kept (time old) f (omega arith) ∙ present old f)
      ((hands.syncs told).no_new (time new) f image hands.runs.later (omega arith) (subst (λ (s : FileState). IsImage s image) (sym (present new f)) is))

  pub crashed_no_new : (picked : ℕ → FileState → List ℕ) (old new : D) (pick : ℕ) → ((p : ℕ) (file : FileState) → IsTrue tells → IsSound file → IsImage file (picked p file)) → ((f : ℕ) → Crashed (picked pick (now old f)) (now new f)) → IsTrue tells → HaveNoNew (now old) (now new)
  crashed_no_new picked old new pick is_image left told f image is =
      let l = left f in
      let same : image ≡ picked pick (now old f) = rest_settled (now new f) l.rest image is ∙ l.reading in
      subst (λ (i : List ℕ). IsImage (now old f) i) (sym same) (is_image pick (now old f) told (sound_now old f told))

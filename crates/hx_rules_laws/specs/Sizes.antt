-- The sizes of versions are the lengths of their contents, where the contents were kept.
use Rattle.std.specs.Prelude.{◌≡◌, ℕ, ◌+◌, ◌-◌, ◌≤◌, ◌==◌, not, Bool, true, false, ◌&&◌, List, [], ◌∷◌, ◌++◌, take, drop, length, cond, Option, Some, None, refl}
use Rattle.std.proofs.Common.{arith, ap, sym, ◌∙◌, subst, length-append, length-take, length-drop}
use Rattle.std.proofs.lemmas.Bool.Decides.{nat_tests}
use Rattle.hx_events.specs.declared.backup.Backup.{Backup}
use Rattle.hx_events.specs.declared.event.Command.TheVariants.{Edit, Open as OpenCommand}
use Rattle.hx_events.specs.declared.event.Event.{Event}
use Rattle.hx_events.specs.declared.event.Event.TheVariants.{Act}
use Rattle.hx_events.specs.declared.life.Entry.{Entry}
use Rattle.hx_events.specs.declared.outcome.Outcome.{Outcome}
use Rattle.hx_events.specs.declared.outcome.Outcome.TheVariants.{Opened, Created, Edited, Undone, Redone, Reverted}
use Rattle.hx_rules.specs.Entries.{Deed, deed, own, is_of}
use Rattle.hx_rules.specs.Versions.{Version, version, replaced, edited, version_at, versions, alternative, last_version}
use Rattle.hx_rules.specs.Legal.{Opening, restored_at, is_legal, is_row, deletes_past, grows_past, is_registered_at}
use Rattle.hx_rules_laws.specs.Frames.{adds_deed, leaves_others, same_number}
use Rattle.hx_rules_laws.specs.Rows.{and_left, and_right, row_holds, past_legal}

-- what an open or a revert read has as many bytes as its stat says
abbrev pub IsWholeEntry : Outcome → List ℕ → Type 0
IsWholeEntry (Opened s) content = length content ≡ s.size
IsWholeEntry (Reverted s) content = length content ≡ s.size
IsWholeEntry _ content = Unit {0}

abbrev pub AreWhole : List Entry → Type 0
AreWhole [] = Unit {0}
AreWhole (e ∷ es) = IsWholeEntry e.outcome e.content × AreWhole es

-- each of these versions has the size of its content
abbrev pub AreSized : List Version → Type 0
AreSized [] = Unit {0}
AreSized (v ∷ vs) = (length v.content ≡ v.size) × AreSized vs

-- After a legal history that kept the contents, a version's size is the length of its content. So the refusals of edits and
-- the blocks of backups, which go by sizes, go by contents.
abbrev pub SizesAreLengths : Type 0
SizesAreLengths = (o : Opening) (es : List Entry) (c : ℕ) → is_legal o es ≡ true → AreWhole es → AreSized (versions (restored_at o c) (own c es))

pub at_sized : (n : ℕ) (vs : List Version) → AreSized vs → length (version_at n vs).content ≡ (version_at n vs).size
at_sized n [] are = refl
at_sized n (v ∷ vs) are = go (length vs + 1 == n) are.0 (at_sized n vs are.1)
  where
    go : (b : Bool) → length v.content ≡ v.size → length (version_at n vs).content ≡ (version_at n vs).size → length (cond b v (version_at n vs)).content ≡ (cond b v (version_at n vs)).size
    go true here rest = here
    go false here rest = rest

replaced_length : (off del : ℕ) (text old : List ℕ) → off + del ≤ length old → length (replaced off del text old) ≡ length old - del + length text
replaced_length off del text old le = omega (arith, length-append (take off old ++ text) (drop (off + del) old), length-append (take off old) text, length-take off old, length-drop (off + del) old)

edit_sized : (off del : ℕ) (text : List ℕ) (old : Version) → off + del ≤ old.size → length old.content ≡ old.size → length (replaced off del text old.content) ≡ old.size - del + length text
edit_sized off del text old le is = replaced_length off del text old.content (omega (arith, le, is)) ∙ ap (λ n. n - del + length text) is

-- the newest of these versions
abbrev pub newest : List Version → Version
newest vs = elim vs [ [] ↦ version [] 0 | v ∷ rest ↦ v ]

newest_sized : (vs : List Version) → AreSized vs → length (newest vs).content ≡ (newest vs).size
newest_sized [] are = refl
newest_sized (v ∷ vs) are = are.0

within : (size off del : ℕ) → not (deletes_past size off del) ≡ true → off + del ≤ size
within size off del h = grind (arith, nat_tests)

edited_sized : (o : Opening) (es : List Entry) (event : Event) (c n : ℕ) → is_of c event ≡ true → is_row o es event (Edited n) ≡ true → AreSized (versions (restored_at o c) (own c es))
    → length (edited event (newest (versions (restored_at o c) (own c es)))).content ≡ (edited event (newest (versions (restored_at o c) (own c es)))).size
edited_sized o es (Act (Edit k off del text)) c n is row are =
    let mine : is_row o es (Act (Edit c off del text)) (Edited n) ≡ true = subst (λ (r : ℕ). is_row o es (Act (Edit r off del text)) (Edited n) ≡ true) (same_number k c is) row in
    let old = newest (versions (restored_at o c) (own c es)) in
    let stays : not (deletes_past old.size off del) ≡ true =
    and_right (is_registered_at o es c) (not (deletes_past old.size off del))
    (and_left (is_registered_at o es c && not (deletes_past old.size off del)) (not (grows_past old.size del (length text)))
    (and_left (is_registered_at o es c && not (deletes_past old.size off del) && not (grows_past old.size del (length text))) (n == last_version (restored_at o c) (own c es) + 1) mine)) in
    edit_sized off del text old (within old.size off del stays) (newest_sized (versions (restored_at o c) (own c es)) are)
edited_sized o es (Act (OpenCommand k)) c n is row are = absurd cc
edited_sized o es _ c n is row are = absurd cc

sized_step : (o : Opening) (c : ℕ) (es : List Entry) (place : ℕ) (event : Event) (outcome : Outcome) (content : List ℕ) → is_of c event ≡ true → is_row o es event outcome ≡ true → IsWholeEntry outcome content
    → AreSized (versions (restored_at o c) (own c es)) → AreSized (versions (restored_at o c) (deed place event outcome content ∷ own c es))
sized_step o c es place event (Opened s) content is row whole are = (whole, are)
sized_step o c es place event (Reverted s) content is row whole are = (whole, are)
sized_step o c es place event (Created n) content is row whole are = (refl, are)
sized_step o c es place event (Edited n) content is row whole are = (edited_sized o es event c n is row are, are)
sized_step o c es place event (Undone n) content is row whole are = (at_sized (alternative (restored_at o c) (deed place event (Undone n) content ∷ own c es)) (versions (restored_at o c) (own c es)) are, are)
sized_step o c es place event (Redone n) content is row whole are = (at_sized (alternative (restored_at o c) (deed place event (Redone n) content ∷ own c es)) (versions (restored_at o c) (own c es)) are, are)
sized_step o c es place event _ content is row whole are = are

restored_sized : (restored : Option Backup) → AreSized (versions restored [])
restored_sized None = tt
restored_sized (Some b) = (refl, tt)

pub sizes_are_lengths : SizesAreLengths
sizes_are_lengths o [] c legal whole = restored_sized (restored_at o c)
sizes_are_lengths o (e ∷ es) c legal whole = go (is_of c e.event) (adds_deed c e es) (leaves_others c e es) (λ is. sized_step o c es (length es + 1) e.event e.outcome e.content is (row_holds o e es legal) whole.0 (sizes_are_lengths o es c (past_legal o e es legal) whole.1)) (sizes_are_lengths o es c (past_legal o e es legal) whole.1)
  where
    go : (b : Bool) → (b ≡ true → own c (e ∷ es) ≡ deed (length es + 1) e.event e.outcome e.content ∷ own c es) → (b ≡ false → own c (e ∷ es) ≡ own c es) → (b ≡ true → AreSized (versions (restored_at o c) (deed (length es + 1) e.event e.outcome e.content ∷ own c es))) → AreSized (versions (restored_at o c) (own c es)) → AreSized (versions (restored_at o c) (own c (e ∷ es)))
    go true here other mine rest = subst (λ (ds : List Deed). AreSized (versions (restored_at o c) ds)) (sym (here refl)) (mine refl)
    go false here other mine rest = subst (λ (ds : List Deed). AreSized (versions (restored_at o c) ds)) (sym (other refl)) rest

-- No content of a legal life is longer than the limit, where none was restored that is.
use Rattle.std.specs.Prelude.{◌≡◌, ℕ, ◌+◌, ◌-◌, ◌≤◌, ◌==◌, nat_le, not, Bool, true, false, ◌&&◌, List, [], ◌∷◌, length, cond, Option, Some, None, refl}
use Rattle.std.proofs.Common.{arith, ap, sym, ◌∙◌, subst}
use Rattle.std.proofs.lemmas.Bool.Decides.{nat_tests}
use Rattle.hx_events.specs.declared.backup.Backup.{Backup}
use Rattle.hx_events.specs.declared.backup.TheConstants.{CONTENT_MAX}
use Rattle.hx_events.specs.declared.event.Command.TheVariants.{Edit, Open, Revert}
use Rattle.hx_events.specs.declared.event.Event.{Event}
use Rattle.hx_events.specs.declared.event.Event.TheVariants.{Act}
use Rattle.hx_events.specs.declared.life.Entry.{Entry}
use Rattle.hx_events.specs.declared.outcome.Outcome.{Outcome}
use Rattle.hx_events.specs.declared.outcome.Outcome.TheVariants.{Opened, Created, Edited, Undone, Redone, Reverted}
use Rattle.hx_etag.specs.declared.stat.Stat.{Stat}
use Rattle.hx_rules.specs.Backups.{Begun, Snapshot, begun}
use Rattle.hx_rules.specs.Entries.{Deed, deed, own, is_of}
use Rattle.hx_rules.specs.Legal.{Opening, restored_at, is_legal, is_row, lacks_pair, deletes_past, grows_past, is_registered_at}
use Rattle.hx_rules.specs.Versions.{Version, version, edited, version_at, versions, alternative, last_version}
use Rattle.hx_rules_laws.specs.Frames.{adds_deed, leaves_others, same_number}
use Rattle.hx_rules_laws.specs.Rows.{and_left, and_right, row_holds, past_legal}
use Rattle.hx_rules_laws.specs.Sizes.{AreWhole, at_sized, sizes_are_lengths}
use Rattle.hx_rules_laws.specs.Taken.{begun_is_taken}

-- none of these versions is larger than a content may be
abbrev pub AreShort : List Version → Type 0
AreShort [] = Unit {0}
AreShort (v ∷ vs) = (v.size ≤ CONTENT_MAX) × AreShort vs

-- a backup that was restored is short enough
abbrev pub IsShortBackup : Option Backup → Type 0
IsShortBackup None = Unit {0}
IsShortBackup (Some b) = length b.content ≤ CONTENT_MAX

no_larger : (n m : ℕ) → nat_le n m ≡ true → n ≤ m
no_larger n m h = grind (arith, nat_tests)

at_short : (n : ℕ) (vs : List Version) → AreShort vs → (version_at n vs).size ≤ CONTENT_MAX
at_short n [] are = omega arith
at_short n (v ∷ vs) are = go (length vs + 1 == n) are.0 (at_short n vs are.1)
  where
    go : (b : Bool) → v.size ≤ CONTENT_MAX → (version_at n vs).size ≤ CONTENT_MAX → (cond b v (version_at n vs)).size ≤ CONTENT_MAX
    go true here rest = here
    go false here rest = rest

-- the newest of these versions
abbrev newest : List Version → Version
newest vs = elim vs [ [] ↦ version [] 0 | v ∷ rest ↦ v ]

opened_short : (o : Opening) (es : List Entry) (event : Event) (s : Stat) → is_row o es event (Opened s) ≡ true → s.size ≤ CONTENT_MAX
opened_short o es (Act (Open k)) s row = no_larger s.size CONTENT_MAX (and_right (not (is_registered_at o es k) && not (lacks_pair o es k)) (nat_le s.size CONTENT_MAX) row)
opened_short o es (Act (Edit k off del text)) s row = absurd cc
opened_short o es _ s row = absurd cc

reverted_short : (o : Opening) (es : List Entry) (event : Event) (s : Stat) → is_row o es event (Reverted s) ≡ true → s.size ≤ CONTENT_MAX
reverted_short o es (Act (Revert k)) s row = no_larger s.size CONTENT_MAX (and_right _ (nat_le s.size CONTENT_MAX) row)
reverted_short o es (Act (Edit k off del text)) s row = absurd cc
reverted_short o es _ s row = absurd cc

not_past : (size del add : ℕ) → not (grows_past size del add) ≡ true → size - del + add ≤ CONTENT_MAX
not_past size del add h = grind (arith, nat_tests)

edited_short : (o : Opening) (es : List Entry) (event : Event) (c n : ℕ) (old : Version) → old ≡ newest (versions (restored_at o c) (own c es)) → is_of c event ≡ true → is_row o es event (Edited n) ≡ true → (edited event old).size ≤ CONTENT_MAX
edited_short o es (Act (Edit k off del text)) c n old is_old is row =
    let mine : is_row o es (Act (Edit c off del text)) (Edited n) ≡ true = subst (λ (r : ℕ). is_row o es (Act (Edit r off del text)) (Edited n) ≡ true) (same_number k c is) row in
    let last = newest (versions (restored_at o c) (own c es)) in
    let stays : not (grows_past last.size del (length text)) ≡ true =
    and_right (is_registered_at o es c && not (deletes_past last.size off del)) (not (grows_past last.size del (length text)))
    (and_left (is_registered_at o es c && not (deletes_past last.size off del) && not (grows_past last.size del (length text))) (n == last_version (restored_at o c) (own c es) + 1) mine) in
    subst (λ (v : Version). v.size - del + length text ≤ CONTENT_MAX) (sym is_old) (not_past last.size del (length text) stays)
edited_short o es (Act (Open k)) c n old is_old is row = absurd cc
edited_short o es _ c n old is_old is row = absurd cc

short_step : (o : Opening) (c : ℕ) (es : List Entry) (place : ℕ) (event : Event) (outcome : Outcome) (content : List ℕ) → is_of c event ≡ true → is_row o es event outcome ≡ true
    → AreShort (versions (restored_at o c) (own c es)) → AreShort (versions (restored_at o c) (deed place event outcome content ∷ own c es))
short_step o c es place event (Opened s) content is row are = (opened_short o es event s row, are)
short_step o c es place event (Reverted s) content is row are = (reverted_short o es event s row, are)
short_step o c es place event (Created n) content is row are = (omega arith, are)
short_step o c es place event (Edited n) content is row are = (edited_short o es event c n _ refl is row, are)
short_step o c es place event (Undone n) content is row are = (at_short (alternative (restored_at o c) (deed place event (Undone n) content ∷ own c es)) (versions (restored_at o c) (own c es)) are, are)
short_step o c es place event (Redone n) content is row are = (at_short (alternative (restored_at o c) (deed place event (Redone n) content ∷ own c es)) (versions (restored_at o c) (own c es)) are, are)
short_step o c es place event _ content is row are = are

restored_short : (restored : Option Backup) → IsShortBackup restored → AreShort (versions restored [])
restored_short None is = tt
restored_short (Some b) is = (is, tt)

versions_short : (o : Opening) (es : List Entry) (c : ℕ) → is_legal o es ≡ true → IsShortBackup (restored_at o c) → AreShort (versions (restored_at o c) (own c es))
versions_short o [] c legal short = restored_short (restored_at o c) short
versions_short o (e ∷ es) c legal short = go (is_of c e.event) (adds_deed c e es) (leaves_others c e es) (λ is. short_step o c es (length es + 1) e.event e.outcome e.content is (row_holds o e es legal) (versions_short o es c (past_legal o e es legal) short)) (versions_short o es c (past_legal o e es legal) short)
  where
    go : (b : Bool) → (b ≡ true → own c (e ∷ es) ≡ deed (length es + 1) e.event e.outcome e.content ∷ own c es) → (b ≡ false → own c (e ∷ es) ≡ own c es) → (b ≡ true → AreShort (versions (restored_at o c) (deed (length es + 1) e.event e.outcome e.content ∷ own c es))) → AreShort (versions (restored_at o c) (own c es)) → AreShort (versions (restored_at o c) (own c (e ∷ es)))
    go true here other mine rest = subst (λ (ds : List Deed). AreShort (versions (restored_at o c) ds)) (sym (here refl)) (mine refl)
    go false here other mine rest = subst (λ (ds : List Deed). AreShort (versions (restored_at o c) ds)) (sym (other refl)) rest

-- No version's content is longer than a content may be.
pub contents_are_short : (o : Opening) (es : List Entry) (c v : ℕ) → is_legal o es ≡ true → AreWhole es → IsShortBackup (restored_at o c) → length (version_at v (versions (restored_at o c) (own c es))).content ≤ CONTENT_MAX
contents_are_short o es c v legal whole short =
    let sized = at_sized v (versions (restored_at o c) (own c es)) (sizes_are_lengths o es c legal whole) in
    let few = at_short v (versions (restored_at o c) (own c es)) (versions_short o es c legal short) in
    omega (arith, sized, few)

abbrev pub ContentsAreShort : Type 0
ContentsAreShort = (o : Opening) (es : List Entry) (c v : ℕ) → is_legal o es ≡ true → AreWhole es → IsShortBackup (restored_at o c) → length (version_at v (versions (restored_at o c) (own c es))).content ≤ CONTENT_MAX

-- So is that of a backup that is begun.
pub begun_is_short : (o : Opening) (es : List Entry) (c : ℕ) (b : Begun) → is_legal o es ≡ true → AreWhole es → IsShortBackup (restored_at o c) → begun (restored_at o c) o.guarded (own c es) ≡ Some b → length b.snapshot.content ≤ CONTENT_MAX
begun_is_short o es c b legal whole short is =
    subst (λ (s : Snapshot). length s.content ≤ CONTENT_MAX) (begun_is_taken o es c legal b is).same (contents_are_short o es c b.snapshot.version legal whole short)

-- and it is as long as its size says
pub begun_is_sized : (o : Opening) (es : List Entry) (c : ℕ) (b : Begun) → is_legal o es ≡ true → AreWhole es → begun (restored_at o c) o.guarded (own c es) ≡ Some b → b.size ≡ length b.snapshot.content
begun_is_sized o es c b legal whole is =
    let t = begun_is_taken o es c legal b is in
    t.size ∙ sym (at_sized b.snapshot.version (versions (restored_at o c) (own c es)) (sizes_are_lengths o es c legal whole)) ∙ ap (λ (s : Snapshot). length s.content) t.same

pub begun_has_few : (o : Opening) (es : List Entry) (c : ℕ) (b : Begun) → is_legal o es ≡ true → AreWhole es → IsShortBackup (restored_at o c) → begun (restored_at o c) o.guarded (own c es) ≡ Some b → b.size ≤ CONTENT_MAX
begun_has_few o es c b legal whole short is =
    let size = begun_is_sized o es c b legal whole is in
    let few = begun_is_short o es c b legal whole short is in
    omega (arith, size, few)

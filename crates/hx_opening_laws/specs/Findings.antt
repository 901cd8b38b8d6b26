-- What is found in pairs of slot files, whatever bytes were read: a resource is found once, and each backup is whole.
use Rattle.std.specs.Prelude.{◌≡◌, ◌<◌, ◌≤◌, ◌⊎◌, ℕ, zero, suc, ◌+◌, ◌==◌, nat_le, nat_lt, Bool, true, false, if◌then◌else◌, List, [], ◌∷◌, length, take, drop, Option, Some, None, Result, Ok, Err, refl}
use Rattle.std.proofs.Common.{sym, ◌∙◌, ap, subst, inl, inr, ⊎_elim, arith}
use Rattle.std.proofs.lemmas.Bool.{cases_lt}
use Rattle.std.proofs.lemmas.Bool.Decides.{nat_tests}
use Rattle.std.proofs.lemmas.Slice.Eq.{bytes_eq-Decides}
use Rattle.hx_events.specs.declared.backup.Backup.{Backup}
use Rattle.hx_events.specs.declared.backup.PairFound.{PairFound}
use Rattle.hx_events.specs.declared.backup.PairFound.TheVariants.{Empty, Found, Damaged, Twin}
use Rattle.hx_events.specs.declared.backup.Side.{Side}
use Rattle.hx_events.specs.declared.backup.Side.TheVariants.{A, B}
use Rattle.hx_events.specs.declared.backup.SlotForm.{SlotForm}
use Rattle.hx_events.specs.declared.backup.SlotForm.TheVariants.{One, Two}
use Rattle.hx_events.specs.declared.backup.TheConstants.{CONTENT_MAX}
use Rattle.hx_events.specs.Resources.{is_resource}
use Rattle.hx_meta.specs.declared.object.Meta.{Meta}
use Rattle.hx_meta.specs.Metas.{meta_in}
use Rattle.hx_record.specs.declared.error.RecordError.{RecordError}
use Rattle.hx_record.specs.declared.error.RecordError.TheVariants.{BadResource, OtherType, TooLong}
use Rattle.hx_record.specs.Records.{place_in, content_limit, is_own_type, backup_of, line_read, split_read, record_in}
use Rattle.hx_restore.specs.declared.value.PairValue.{PairValue}
use Rattle.hx_restore.specs.declared.value.PairValue.TheVariants.{Nothing, Broken, Held}
use Rattle.hx_restore.specs.Values.{SideValue, Silent, Spoilt, Holding, side_by, side_of, value_of, value_by_bytes, values_in, holds_for, found_by, earlier_of, found_from, restored_pairs}
use Rattle.hx_rules.specs.Legal.{lowest_from}
use Rattle.hx_slots.specs.Frames.{Frame, shown_in}
use Rattle.hx_slots.specs.Raws.{raw_at}
use Rattle.hx_slots.specs.declared.pair.RawPair.{RawPair}
use Rattle.hx_lives.specs.CrashSafe.{found_at}
use Rattle.hx_pairs.specs.Words.{at_place}
use Rattle.hx_opening_laws.specs.Names.{FindsResources}

-- These are the findings of a restart in 64 pairs, of which some bytes were read.
pub record AreFindings (found : List PairFound) : Type 0 where
  pub raws : List RawPair
  pub count : length raws ≡ 64
  pub found_so : found ≡ restored_pairs raws

-- a backup is of a resource, and its content isn't past the limit
pub record IsWholeBackup (b : Backup) : Type 0 where
  pub resource : is_resource b.resource ≡ true
  pub short : length b.content ≤ CONTENT_MAX

no_longer : (n m : ℕ) → nat_le n m ≡ true → n ≤ m
no_longer n m h = grind (arith, nat_tests)

limit_within : (form : SlotForm) → content_limit form ≤ CONTENT_MAX
limit_within One = omega arith
limit_within Two = omega arith

made_whole : (form : SlotForm) (resource content : List ℕ) (meta : Meta) (b : Backup) → is_resource resource ≡ true → backup_of form resource (Some meta) content ≡ Ok b → IsWholeBackup b
made_whole form resource content meta b is h = go (is_own_type form meta.type_id) (nat_le (length content) (content_limit form)) refl h
  where
    go : (own short : Bool) → nat_le (length content) (content_limit form) ≡ short → (if own then (if short then Ok (record { resource = resource; base = meta.base; content = content }) else Err TooLong) else Err OtherType) ≡ Ok b → IsWholeBackup b
    go false short within h = absurd cc
    go true false within h = absurd cc
    go true true within h =
        let mine : Backup = record { resource = resource; base = meta.base; content = content } in
        let e : mine ≡ b = cc in
        let most = no_longer (length content) (content_limit form) within in
        let limit = limit_within form in
        subst IsWholeBackup e (record { resource = is; short = omega (arith, most, limit) })

parts_whole : (form : SlotForm) (resource content : List ℕ) (meta : Option Meta) (b : Backup) → is_resource resource ≡ true → backup_of form resource meta content ≡ Ok b → IsWholeBackup b
parts_whole form resource content None b is h = absurd cc
parts_whole form resource content (Some meta) b is h = made_whole form resource content meta b is h

line_whole : (form : SlotForm) (line content : List ℕ) (place : Option ℕ) (b : Backup) → line_read form line place content ≡ Ok b → IsWholeBackup b
line_whole form line content None b h = absurd cc
line_whole form line content (Some blank) b h = go (is_resource (take blank line)) refl h
  where
    go : (t : Bool) → is_resource (take blank line) ≡ t → (if t then backup_of form (take blank line) (meta_in (drop (blank + 1) line)) content else Err BadResource) ≡ Ok b → IsWholeBackup b
    go true is h = parts_whole form (take blank line) content (meta_in (drop (blank + 1) line)) b is h
    go false is h = absurd cc

split_whole : (form : SlotForm) (bytes : List ℕ) (place : Option ℕ) (b : Backup) → split_read form bytes place ≡ Ok b → IsWholeBackup b
split_whole form bytes None b h = absurd cc
split_whole form bytes (Some end) b h = line_whole form (take end bytes) (drop (end + 1) bytes) (place_in 32 (take end bytes)) b h

record_whole : (form : SlotForm) (bytes : List ℕ) (b : Backup) → record_in form bytes ≡ Ok b → IsWholeBackup b
unfolding record_in
record_whole form bytes b h = split_whole form bytes (place_in 10 (take 10000 bytes)) b h

shown_whole : (stamp : ℕ) (r : Result Backup RecordError) (n : ℕ) (b : Backup) → ((c : Backup) → r ≡ Ok c → IsWholeBackup c) → side_by stamp r ≡ Holding n b → IsWholeBackup b
shown_whole stamp (Ok c) n b whole h = let e : c ≡ b = cc in subst IsWholeBackup e (whole c refl)
shown_whole stamp (Err error) n b whole h = absurd cc

side_whole : (x : Option Frame) (n : ℕ) (b : Backup) → side_of x ≡ Holding n b → IsWholeBackup b
side_whole None n b h = absurd cc
side_whole (Some frame) n b h = shown_whole frame.stamp (record_in frame.form frame.body) n b (record_whole frame.form frame.body) h

-- what holds of the backups of two sides holds of that of their pair
value_whole : (x y : SideValue) (b : Backup) (side : Side) → ((n : ℕ) (c : Backup) → x ≡ Holding n c → IsWholeBackup c) → ((n : ℕ) (c : Backup) → y ≡ Holding n c → IsWholeBackup c) → value_of x y ≡ Held b side → IsWholeBackup b
value_whole Silent Silent b side mine other h = absurd cc
value_whole Silent Spoilt b side mine other h = absurd cc
value_whole Spoilt Silent b side mine other h = absurd cc
value_whole Spoilt Spoilt b side mine other h = absurd cc
value_whole Silent (Holding t c) b side mine other h = let e : c ≡ b = cc in subst IsWholeBackup e (other t c refl)
value_whole Spoilt (Holding t c) b side mine other h = let e : c ≡ b = cc in subst IsWholeBackup e (other t c refl)
value_whole (Holding s a) Silent b side mine other h = let e : a ≡ b = cc in subst IsWholeBackup e (mine s a refl)
value_whole (Holding s a) Spoilt b side mine other h = let e : a ≡ b = cc in subst IsWholeBackup e (mine s a refl)
value_whole (Holding s a) (Holding t c) b side mine other h = go (nat_lt s t) h
  where
    go : (later : Bool) → (if later then Held c B else Held a A) ≡ Held b side → IsWholeBackup b
    go true h = let e : c ≡ b = cc in subst IsWholeBackup e (other t c refl)
    go false h = let e : a ≡ b = cc in subst IsWholeBackup e (mine s a refl)

bytes_whole : (a b : List ℕ) (c : Backup) (side : Side) → value_by_bytes a b ≡ Held c side → IsWholeBackup c
bytes_whole a b c side h = value_whole (side_of (shown_in a)) (side_of (shown_in b)) c side (side_whole (shown_in a)) (side_whole (shown_in b)) h

was_held : (v : PairValue) (e : Option ℕ) (b : Backup) (side : Side) → found_by v e ≡ Found b side → v ≡ Held b side
was_held Nothing e b side h = absurd cc
was_held Broken e b side h = absurd cc
was_held (Held c s) None b side h = cc
was_held (Held c s) (Some q) b side h = absurd cc

was_first : (v : PairValue) (e : Option ℕ) (b : Backup) (side : Side) → found_by v e ≡ Found b side → e ≡ None
was_first Nothing e b side h = absurd cc
was_first Broken e b side h = absurd cc
was_first (Held c s) None b side h = refl
was_first (Held c s) (Some q) b side h = absurd cc

-- what was found in the pair p of n
record IsFoundIn (values : ℕ → PairValue) (n p : ℕ) (b : Backup) (side : Side) : Type 0 where
  pub within : p < n
  pub held : values p ≡ Held b side
  pub first : earlier_of values p (values p) ≡ None

found_in : (values : ℕ → PairValue) (n p : ℕ) (b : Backup) (side : Side) → found_at (found_from values 0 n) p ≡ Found b side → IsFoundIn values n p b side
found_in values n p b side h = ⊎_elim
    (λ none. absurd (let e : Empty ≡ Found b side = sym none.1 ∙ h in cc))
    (λ here.
    let f : found_by (values p) (earlier_of values p (values p)) ≡ Found b side = sym here.1 ∙ h in
    record { within = here.0; held = was_held (values p) (earlier_of values p (values p)) b side f; first = was_first (values p) (earlier_of values p (values p)) b side f })
    (at_place values n p)

-- where no number passes, this one doesn't
none_passes : (test : ℕ → Bool) (i n p : ℕ) → lowest_from test i n ≡ None → i ≤ p → p < i + n → test p ≡ false
none_passes test i zero p h from lt = absurd (omega (arith, from, lt))
none_passes test i (suc n) p h from lt = go (λ l past. none_passes test (i + 1) n p l past (omega (arith, lt))) (test i) refl h
  where
    go : (lowest_from test (i + 1) n ≡ None → i + 1 ≤ p → test p ≡ false) → (t : Bool) → test i ≡ t → (if t then Some i else lowest_from test (i + 1) n) ≡ None → test p ≡ false
    go later true is h = absurd cc
    go later false is h = ⊎_elim
        (λ after. later h (omega (arith, after)))
        (λ here. subst (λ m. test m ≡ false) (let e : i ≡ p = omega (arith, from, here) in e) is)
        (cases_lt i p)

-- an earlier pair holds no backup of the same resource
no_earlier : (values : ℕ → PairValue) (n p q : ℕ) (b c : Backup) (s t : Side) → IsFoundIn values n p b s → IsFoundIn values n q c t → b.resource ≡ c.resource → p < q → ⊥
no_earlier values n p q b c s t mine other same lt =
    let first : lowest_from (λ k. holds_for c.resource (values k)) 0 q ≡ None = sym (ap (earlier_of values q) other.held) ∙ other.first in
    let none : holds_for c.resource (values p) ≡ false = none_passes (λ k. holds_for c.resource (values k)) 0 q p first (omega arith) (omega (arith, lt)) in
    let one : holds_for c.resource (values p) ≡ true = ap (holds_for c.resource) mine.held ∙ (bytes_eq-Decides b.resource c.resource).1 same in
    let e : true ≡ false = sym one ∙ none in cc

once_in : (values : ℕ → PairValue) (n p q : ℕ) (b c : Backup) (s t : Side) → IsFoundIn values n p b s → IsFoundIn values n q c t → b.resource ≡ c.resource → p ≡ q
once_in values n p q b c s t mine other same = ⊎_elim
    (λ lt. absurd (no_earlier values n p q b c s t mine other same lt))
    (λ not_lt. ⊎_elim
    (λ gt. absurd (no_earlier values n q p c b t s other mine (sym same) gt))
    (λ not_gt. omega (arith, not_lt, not_gt))
    (cases_lt q p))
    (cases_lt p q)

found_pairs : (raws : List RawPair) → restored_pairs raws ≡ found_from (values_in raws) 0 (length raws)
unfolding restored_pairs
found_pairs raws = refl

-- the finding in the pair p, by what was read
of_findings : (found : List PairFound) (f : AreFindings found) (p : ℕ) (b : Backup) (side : Side) → found_at found p ≡ Found b side → IsFoundIn (values_in f.raws) (length f.raws) p b side
of_findings found f p b side h = found_in (values_in f.raws) (length f.raws) p b side (sym (ap (λ (l : List PairFound). found_at l p) (f.found_so ∙ found_pairs f.raws)) ∙ h)

-- No two pairs are found to hold backups of one resource.
pub found_once : (found : List PairFound) → AreFindings found → (p q : ℕ) (b c : Backup) (s t : Side) → found_at found p ≡ Found b s → found_at found q ≡ Found c t → b.resource ≡ c.resource → p ≡ q
found_once found f p q b c s t h g same = once_in (values_in f.raws) (length f.raws) p q b c s t (of_findings found f p b s h) (of_findings found f q c t g) same

-- Each found backup is of a resource, and its content isn't past the limit.
pub found_whole : (found : List PairFound) → AreFindings found → (p : ℕ) (b : Backup) (side : Side) → found_at found p ≡ Found b side → IsWholeBackup b
found_whole found f p b side h = bytes_whole (raw_at f.raws p).a (raw_at f.raws p).b b side (of_findings found f p b side h).held

pub finds_resources : (found : List PairFound) → AreFindings found → FindsResources found
finds_resources found f p b side h = (found_whole found f p b side h).resource

length_found : (values : ℕ → PairValue) (i n : ℕ) → length (found_from values i n) ≡ n
length_found values i zero = refl
length_found values i (suc n) = let e = length_found values (i + 1) n in omega (arith, e)

pub found_count : (found : List PairFound) → AreFindings found → length found ≡ 64
found_count found f = ap length (f.found_so ∙ found_pairs f.raws) ∙ length_found (values_in f.raws) 0 (length f.raws) ∙ f.count

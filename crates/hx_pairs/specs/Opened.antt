-- A registry that has just begun: what the barrier, the scan, the restore and the adoption give is the invariant.
use Rattle.std.specs.Prelude.{◌≡◌, ◌≢◌, ◌<◌, ◌≤◌, ℕ, ◌+◌, ◌*◌, Bool, true, false, nat_lt, bytes_eq, if◌then◌else◌, List, [], length, slice_index_or, Option, Some, None, Result, Ok, Err, refl}
use Rattle.std.proofs.Common.{sym, ◌∙◌, ap, subst, inl, inr, arith}
use Rattle.std.proofs.lemmas.Bool.Decides.{nat_tests}
use Rattle.std.proofs.lemmas.Slice.Eq.{bytes_eq-Decides}
use Rattle.hx_disk.specs.File.{FileState, IsImage, IsAtRest}
use Rattle.hx_disk.specs.Images.{rest_settled}
use Rattle.hx_events.specs.declared.backup.Backup.{Backup}
use Rattle.hx_events.specs.declared.backup.PairFound.{PairFound}
use Rattle.hx_events.specs.declared.backup.PairFound.TheVariants.{Empty, Found, Damaged, Twin}
use Rattle.hx_events.specs.declared.backup.Side.{Side}
use Rattle.hx_events.specs.declared.backup.Side.TheVariants.{A, B}
use Rattle.hx_record.specs.declared.error.RecordError.{RecordError}
use Rattle.hx_record.specs.Records.{record_in}
use Rattle.hx_restore.specs.Values.{Silent, side_by, side_of, value_of, backup_for, holds_for, found_by, earlier_of}
use Rattle.hx_restore.specs.declared.value.PairValue.{PairValue}
use Rattle.hx_restore.specs.declared.value.PairValue.TheVariants.{Nothing, Broken, Held}
use Rattle.hx_rules.specs.Legal.{restored_at}
use Rattle.hx_rules.specs.Marks.{Marks, marks}
use Rattle.hx_rules.specs.Backups.{snapshot}
use Rattle.hx_slots.specs.Files.{file_of}
use Rattle.hx_slots.specs.Frames.{Frame, shown_in}
use Rattle.hx_vault.specs.declared.pair.Pair.{Pair}
use Rattle.hx_vault.specs.declared.pair.PairUse.TheVariants.{Free, Taken, Barred}
use Rattle.hx_vault.specs.Sides.{SideState, is_closed}
use Rattle.hx_vault.specs.Vaults.{VaultState, pair_at, other_side, is_shut, reads_shut}
use Rattle.hx_pairs.specs.OnePair.{LosesTo, PairInvariant}
use Rattle.hx_pairs.specs.ReadSides.{scanned, scanned_by, scanned_side, scanned_quiet, Counts, first_marks, found_keeps}
use Rattle.hx_lives.specs.Course.{Start, opening_at}
use Rattle.hx_lives.specs.CrashSafe.{name_at}
use Rattle.hx_pairs.specs.AllPairs.{HasSides, IsPlace, IsQuietPair, IsForeign, held_at, IsHolder, IsHeld, PairsInvariant}

-- what the pair p is worth by what was read
abbrev pub read_value : (ℕ → FileState) → ℕ → PairValue
read_value files p = value_of (side_of (shown_in (files (2 * p)).reading)) (side_of (shown_in (files (2 * p + 1)).reading))

abbrev pub base_at : Start → ℕ → PairFound
base_at b p = slice_index_or b.base p Empty

-- what an adopted pair is by what was found in it
abbrev pub IsAdopted : PairFound → Pair → Type 0
IsAdopted Empty pair = pair.used ≡ Free
IsAdopted (Found backup side) pair = (pair.used ≡ Taken) × (pair.home ≡ side)
IsAdopted Damaged pair = pair.used ≡ Barred
IsAdopted (Twin q) pair = pair.used ≡ Barred

-- the pair that was found to hold this backup of a twin's resource
pub record IsTwinOf (b : Start) (files : ℕ → FileState) (p q : ℕ) : Type 0 where
  pub backup : Backup
  pub side : Side
  pub within : q < 64
  pub found : base_at b q ≡ Found backup side
  pub same : holds_for backup.resource (read_value files p) ≡ true

-- the pair of the resource c
pub record IsFoundFor (b : Start) (c p : ℕ) : Type 0 where
  pub within : p < 64
  pub below : c < length b.names
  pub backup : Backup
  pub side : Side
  pub found : base_at b p ≡ Found backup side
  pub named : backup.resource ≡ name_at b c
  pub restored : restored_at (opening_at b) c ≡ Some backup

-- A vault that was just opened, over files of which a crash leaves what is read alone: what is known of its gates, its
-- counter, what was found in its pairs, and the use of each by that.
pub record IsOpenedVault (b : Start) (v : VaultState) (files : ℕ → FileState) : Type 0 where
  pub rest : (p : ℕ) (s : Side) → p < 64 → IsAtRest (files (file_of p s))
  pub shut : (p : ℕ) (s : Side) → p < 64 → is_shut (pair_at v p) s ≡ reads_shut (files (file_of p s)).reading
  pub put : (p : ℕ) → p < 64 → (pair_at v p).put ≡ None
  pub stamps : (p : ℕ) (s : Side) (frame : Frame) → p < 64 → shown_in (files (file_of p s)).reading ≡ Some frame → frame.stamp ≤ v.stamp
  pub pairs : length v.pairs ≡ 64
  pub base : (p : ℕ) → p < 64 → base_at b p ≡ found_by (read_value files p) (earlier_of (read_value files) p (read_value files p))
  pub twins : (p q : ℕ) → p < 64 → base_at b p ≡ Twin q → IsTwinOf b files p q
  pub adopted : (p : ℕ) → p < 64 → IsAdopted (base_at b p) (pair_at v p)

-- Over it the names are distinct, and each resource holds the pair in which its backup was found.
pub record IsFresh (b : Start) (v : VaultState) (held : List (Option ℕ)) (files : ℕ → FileState) : Type 0 where
  pub vault : IsOpenedVault b v files
  pub names : (c k : ℕ) → c < length b.names → k < length b.names → name_at b c ≡ name_at b k → c ≡ k
  pub owners : length held ≡ length b.names
  pub holds : (c p : ℕ) → held_at held c ≡ Some p → IsFoundFor b c p
  pub apart : (c k p : ℕ) → held_at held c ≡ Some p → held_at held k ≡ Some p → c ≡ k
  pub owner : (p : ℕ) (backup : Backup) (side : Side) → p < 64 → base_at b p ≡ Found backup side → IsHeld held p
  pub lacking : (c : ℕ) → held_at held c ≡ None → restored_at (opening_at b) c ≡ None

closed_by : (t : Bool) (x : Option Frame) → is_closed (scanned_by t x) ≡ t
closed_by true x = refl
closed_by false x = refl

no_place : (put : Option ℕ) (side : SideState) → put ≡ None → IsPlace put side
no_place put side none = subst (λ (x : Option ℕ). IsPlace x side) (sym none) tt

fresh_sides : (b : Start) (v : VaultState) (held : List (Option ℕ)) (files : ℕ → FileState) (p : ℕ) → IsFresh b v held files → p < 64
    → HasSides (pair_at v p) p files (scanned (files (file_of p (pair_at v p).home)).reading) (scanned (files (file_of p (other_side (pair_at v p).home))).reading)
fresh_sides b v held files p fresh within =
    let home : Side = (pair_at v p).home in
    record {
      is_here = scanned_side (files (file_of p home)) (fresh.vault.rest p home within);
      is_away = scanned_side (files (file_of p (other_side home))) (fresh.vault.rest p (other_side home) within);
      known_here = closed_by (reads_shut (files (file_of p home)).reading) (shown_in (files (file_of p home)).reading) ∙ sym (fresh.vault.shut p home within);
      known_away = closed_by (reads_shut (files (file_of p (other_side home))).reading) (shown_in (files (file_of p (other_side home))).reading) ∙ sym (fresh.vault.shut p (other_side home) within);
      known_put = no_place (pair_at v p).put (scanned (files (file_of p (other_side home))).reading) (fresh.vault.put p within);
    }

-- which value was found as what
was_held : (v : PairValue) (e : Option ℕ) (backup : Backup) (side : Side) → found_by v e ≡ Found backup side → v ≡ Held backup side
was_held Nothing e backup side h = absurd cc
was_held Broken e backup side h = absurd cc
was_held (Held b s) None backup side h = cc
was_held (Held b s) (Some q) backup side h = absurd cc

was_nothing : (v : PairValue) (e : Option ℕ) → found_by v e ≡ Empty → v ≡ Nothing
was_nothing Nothing e h = refl
was_nothing Broken e h = absurd cc
was_nothing (Held b s) None h = absurd cc
was_nothing (Held b s) (Some q) h = absurd cc

was_broken : (v : PairValue) (e : Option ℕ) → found_by v e ≡ Damaged → v ≡ Broken
was_broken Nothing e h = absurd cc
was_broken Broken e h = refl
was_broken (Held b s) None h = absurd cc
was_broken (Held b s) (Some q) h = absurd cc

was_twin : (v : PairValue) (e : Option ℕ) (q : ℕ) → found_by v e ≡ Twin q → (b : Backup) × (s : Side) × (v ≡ Held b s)
was_twin Nothing e q h = absurd cc
was_twin Broken e q h = absurd cc
was_twin (Held b s) None q h = absurd cc
was_twin (Held b s) (Some k) q h = (b, s, refl)

-- the side that counts, by the value of the pair
abbrev CountsBy : Side → Option Frame → Option Frame → Backup → Type 0
CountsBy A x y backup = Counts A x y backup
CountsBy B x y backup = Counts B y x backup

result_of : Frame → Result Backup RecordError
result_of frame = record_in frame.form frame.body

counts_a : (f : Frame) (y : Option Frame) (b backup : Backup) (side : Side) → record_in f.form f.body ≡ Ok b → Held b A ≡ Held backup side → ((other : Frame) → y ≡ Some other → LosesTo A f.stamp other.stamp (record_in other.form other.body)) → CountsBy side (Some f) y backup
counts_a f y b backup side reads h loses =
    let is_side : A ≡ side = cc in
    let is_backup : b ≡ backup = cc in
    subst (λ (s : Side). CountsBy s (Some f) y backup) is_side (record { frame = f; is = refl; reads = reads ∙ ap (λ (x : Backup). Ok x) is_backup; loses = loses })

counts_b : (x : Option Frame) (f : Frame) (b backup : Backup) (side : Side) → record_in f.form f.body ≡ Ok b → Held b B ≡ Held backup side → ((other : Frame) → x ≡ Some other → LosesTo B f.stamp other.stamp (record_in other.form other.body)) → CountsBy side x (Some f) backup
counts_b x f b backup side reads h loses =
    let is_side : B ≡ side = cc in
    let is_backup : b ≡ backup = cc in
    subst (λ (s : Side). CountsBy s x (Some f) backup) is_side (record { frame = f; is = refl; reads = reads ∙ ap (λ (k : Backup). Ok k) is_backup; loses = loses })

none_other : (home : Side) (s : ℕ) (other : Frame) → None ≡ Some other → LosesTo home s other.stamp (record_in other.form other.body)
none_other home s other h = absurd cc

lost : (home : Side) (s : ℕ) (f other : Frame) (r : Result Backup RecordError) → record_in f.form f.body ≡ r → LosesTo home s f.stamp r → Some f ≡ Some other → LosesTo home s other.stamp (record_in other.form other.body)
lost home s f other r is loses h =
    let same : f ≡ other = cc in
    subst (λ (k : Frame). LosesTo home s k.stamp (record_in k.form k.body)) same (subst (LosesTo home s f.stamp) (sym is) loses)

pub held_counts : (x y : Option Frame) (backup : Backup) (side : Side) → value_of (side_of x) (side_of y) ≡ Held backup side → CountsBy side x y backup
held_counts None None backup side h = absurd cc
held_counts (Some f) None backup side h = go (record_in f.form f.body) refl h
  where
    go : (r : Result Backup RecordError) → record_in f.form f.body ≡ r → value_of (side_by f.stamp r) Silent ≡ Held backup side → CountsBy side (Some f) None backup
    go (Ok b) is e = counts_a f None b backup side is e (none_other A f.stamp)
    go (Err error) is e = absurd cc
held_counts None (Some g) backup side h = go (record_in g.form g.body) refl h
  where
    go : (r : Result Backup RecordError) → record_in g.form g.body ≡ r → value_of Silent (side_by g.stamp r) ≡ Held backup side → CountsBy side None (Some g) backup
    go (Ok b) is e = counts_b None g b backup side is e (none_other B g.stamp)
    go (Err error) is e = absurd cc
held_counts (Some f) (Some g) backup side h = go (record_in f.form f.body) refl (record_in g.form g.body) refl h
  where
    pick : (a b : Backup) (t : Bool) → nat_lt f.stamp g.stamp ≡ t → record_in f.form f.body ≡ Ok a → record_in g.form g.body ≡ Ok b → (if t then Held b B else Held a A) ≡ Held backup side → CountsBy side (Some f) (Some g) backup
    pick a b true less is_f is_g e = counts_b (Some f) g b backup side is_g e (λ other same. lost B g.stamp f other (Ok a) is_f (let lt : f.stamp < g.stamp = grind (arith, nat_tests) in lt) same)
    pick a b false more is_f is_g e = counts_a f (Some g) a backup side is_f e (λ other same. lost A f.stamp g other (Ok b) is_g (let le : g.stamp ≤ f.stamp = grind (arith, nat_tests) in le) same)

    go : (r : Result Backup RecordError) → record_in f.form f.body ≡ r → (q : Result Backup RecordError) → record_in g.form g.body ≡ q → value_of (side_by f.stamp r) (side_by g.stamp q) ≡ Held backup side → CountsBy side (Some f) (Some g) backup
    go (Ok a) is_f (Ok b) is_g e = pick a b (nat_lt f.stamp g.stamp) refl is_f is_g e
    go (Ok a) is_f (Err error) is_g e = counts_a f (Some g) a backup side is_f e (λ other same. lost A f.stamp g other (Err error) is_g tt same)
    go (Err error) is_f (Ok b) is_g e = counts_b (Some f) g b backup side is_g e (λ other same. lost B g.stamp f other (Err error) is_f tt same)
    go (Err error) is_f (Err other) is_g e = absurd cc

loud_a : (f : Frame) (y : Option Frame) → value_of (side_of (Some f)) (side_of y) ≡ Nothing → ⊥
loud_a f None h = go (record_in f.form f.body) h
  where
    go : (r : Result Backup RecordError) → value_of (side_by f.stamp r) Silent ≡ Nothing → ⊥
    go (Ok b) e = absurd cc
    go (Err error) e = absurd cc
loud_a f (Some g) h = go (record_in f.form f.body) (record_in g.form g.body) h
  where
    pick : (t : Bool) (a b : Backup) → (if t then Held b B else Held a A) ≡ Nothing → ⊥
    pick true a b e = absurd cc
    pick false a b e = absurd cc

    go : (r q : Result Backup RecordError) → value_of (side_by f.stamp r) (side_by g.stamp q) ≡ Nothing → ⊥
    go (Ok a) (Ok b) e = pick (nat_lt f.stamp g.stamp) a b e
    go (Ok a) (Err error) e = absurd cc
    go (Err error) (Ok b) e = absurd cc
    go (Err error) (Err other) e = absurd cc

loud_b : (g : Frame) → value_of Silent (side_of (Some g)) ≡ Nothing → ⊥
loud_b g h = go (record_in g.form g.body) h
  where
    go : (r : Result Backup RecordError) → value_of Silent (side_by g.stamp r) ≡ Nothing → ⊥
    go (Ok b) e = absurd cc
    go (Err error) e = absurd cc

silent : (x y : Option Frame) → value_of (side_of x) (side_of y) ≡ Nothing → (x ≡ None) × (y ≡ None)
silent None None h = (refl, refl)
silent None (Some g) h = absurd (loud_b g h)
silent (Some f) y h = absurd (loud_a f y h)

silent_side : (files : ℕ → FileState) (p : ℕ) (s : Side) → read_value files p ≡ Nothing → shown_in (files (file_of p s)).reading ≡ None
silent_side files p A h = let b = silent (shown_in (files (2 * p)).reading) (shown_in (files (2 * p + 1)).reading) h in b.0
silent_side files p B h = let b = silent (shown_in (files (2 * p)).reading) (shown_in (files (2 * p + 1)).reading) h in b.1

counts_home : (files : ℕ → FileState) (p : ℕ) (side : Side) (backup : Backup) → CountsBy side (shown_in (files (2 * p)).reading) (shown_in (files (2 * p + 1)).reading) backup
    → Counts side (shown_in (files (file_of p side)).reading) (shown_in (files (file_of p (other_side side))).reading) backup
counts_home files p A backup counts = counts
counts_home files p B backup counts = counts

other_none : (v : PairValue) (mine other : List ℕ) → holds_for mine v ≡ true → mine ≢ other → backup_for other v ≡ None
other_none Nothing mine other h apart = refl
other_none Broken mine other h apart = refl
other_none (Held b side) mine other h apart = go (bytes_eq b.resource other) (bytes_eq-Decides b.resource other).0
  where
    go : (t : Bool) → (t ≡ true → b.resource ≡ other) → (if t then Some b else None) ≡ None
    go true e = absurd (apart (sym ((bytes_eq-Decides b.resource mine).0 h) ∙ e refl))
    go false e = refl

-- the invariant of a registry that has just begun
pub fresh_kept : (b : Start) (v : VaultState) (held : List (Option ℕ)) (files : ℕ → FileState) → IsFresh b v held files → PairsInvariant b [] v held files
fresh_kept b v held files fresh = record {
  names = fresh.names;
  owners = fresh.owners;
  pairs = fresh.vault.pairs;
  apart = fresh.apart;
  taken = λ c p h. holder c p (fresh.holds c p h);
  owned = λ p within used. owner p within used (base_at b p) refl;
  free = λ p within used. quiet p within used (base_at b p) refl;
  barred = λ p within used. foreign p within used (base_at b p) refl;
  lacking = λ c h. ap (λ (r : Option Backup). (marks r (opening_at b).guarded []).done) (fresh.lacking c h);
}
  where
    value : (p : ℕ) (x : PairFound) → p < 64 → base_at b p ≡ x → found_by (read_value files p) (earlier_of (read_value files) p (read_value files p)) ≡ x
    value p x within is = sym (fresh.vault.base p within) ∙ is

    adopted : (p : ℕ) (x : PairFound) → p < 64 → base_at b p ≡ x → IsAdopted x (pair_at v p)
    adopted p x within is = subst (λ (k : PairFound). IsAdopted k (pair_at v p)) is (fresh.vault.adopted p within)

    holder : (c p : ℕ) → IsFoundFor b c p → IsHolder b [] v files c p
    holder c p f =
        let a = adopted p (Found f.backup f.side) f.within f.found in
        let home : Side = (pair_at v p).home in
        let here : List ℕ = (files (file_of p home)).reading in
        let away : List ℕ = (files (file_of p (other_side home))).reading in
        let held_value = was_held (read_value files p) (earlier_of (read_value files) p (read_value files p)) f.backup f.side (value p (Found f.backup f.side) f.within f.found) in
        let counts : Counts home (shown_in here) (shown_in away) f.backup =
        subst (λ (s : Side). Counts s (shown_in (files (file_of p s)).reading) (shown_in (files (file_of p (other_side s))).reading) f.backup) (sym a.1)
        (counts_home files p f.side f.backup (held_counts (shown_in (files (2 * p)).reading) (shown_in (files (2 * p + 1)).reading) f.backup f.side held_value)) in
        record {
          below = f.within;
          used = a.0;
          owned = record {
            here = scanned here;
            away = scanned away;
            sides = fresh_sides b v held files p fresh f.within;
            keeps = subst (λ (m : Marks). PairInvariant (name_at b c) m home v.stamp (scanned here) (scanned away)) (sym (ap (λ (r : Option Backup). marks r (opening_at b).guarded []) f.restored))
                (subst (λ (r : List ℕ). PairInvariant r (first_marks (Some (snapshot 1 f.backup.base f.backup.content)) true) home v.stamp (scanned here) (scanned away)) f.named
                (found_keeps home here away f.backup v.stamp counts (λ frame shows. fresh.vault.stamps p home frame f.within shows)));
          };
        }

    owner : (p : ℕ) → p < 64 → (pair_at v p).used ≡ Taken → (x : PairFound) → base_at b p ≡ x → IsHeld held p
    owner p within used Empty is = absurd (let e : Taken ≡ Free = sym used ∙ adopted p Empty within is in cc)
    owner p within used (Found backup side) is = fresh.owner p backup side within is
    owner p within used Damaged is = absurd (let e : Taken ≡ Barred = sym used ∙ adopted p Damaged within is in cc)
    owner p within used (Twin q) is = absurd (let e : Taken ≡ Barred = sym used ∙ adopted p (Twin q) within is in cc)

    quiet : (p : ℕ) → p < 64 → (pair_at v p).used ≡ Free → (x : PairFound) → base_at b p ≡ x → IsQuietPair (pair_at v p) p files
    quiet p within used Empty is =
        let none = was_nothing (read_value files p) (earlier_of (read_value files) p (read_value files p)) (value p Empty within is) in
        let home : Side = (pair_at v p).home in
        record {
          here = scanned (files (file_of p home)).reading;
          away = scanned (files (file_of p (other_side home))).reading;
          sides = fresh_sides b v held files p fresh within;
          quiet_here = scanned_quiet (files (file_of p home)).reading (silent_side files p home none);
          quiet_away = scanned_quiet (files (file_of p (other_side home))).reading (silent_side files p (other_side home) none);
        }
    quiet p within used (Found backup side) is = absurd (let a = adopted p (Found backup side) within is in let e : Free ≡ Taken = sym used ∙ a.0 in cc)
    quiet p within used Damaged is = absurd (let e : Free ≡ Barred = sym used ∙ adopted p Damaged within is in cc)
    quiet p within used (Twin q) is = absurd (let e : Free ≡ Barred = sym used ∙ adopted p (Twin q) within is in cc)

    as_read : (p : ℕ) → p < 64 → (x y : List ℕ) → IsImage (files (2 * p)) x → IsImage (files (2 * p + 1)) y → value_of (side_of (shown_in x)) (side_of (shown_in y)) ≡ read_value files p
    as_read p within x y is_x is_y =
        ap (λ (l : List ℕ). value_of (side_of (shown_in l)) (side_of (shown_in y))) (rest_settled (files (2 * p)) (fresh.vault.rest p A within) x is_x)
        ∙ ap (λ (l : List ℕ). value_of (side_of (shown_in (files (2 * p)).reading)) (side_of (shown_in l))) (rest_settled (files (2 * p + 1)) (fresh.vault.rest p B within) y is_y)

    foreign : (p : ℕ) → p < 64 → (pair_at v p).used ≡ Barred → (x : PairFound) → base_at b p ≡ x → IsForeign b p files
    foreign p within used Empty is = absurd (let e : Barred ≡ Free = sym used ∙ adopted p Empty within is in cc)
    foreign p within used (Found backup side) is = absurd (let a = adopted p (Found backup side) within is in let e : Barred ≡ Taken = sym used ∙ a.0 in cc)
    foreign p within used Damaged is = record {
      value = read_value files p;
      fixed = as_read p within;
      kind = inl (was_broken (read_value files p) (earlier_of (read_value files) p (read_value files p)) (value p Damaged within is), is);
    }
    foreign p within used (Twin q) is =
        let t = fresh.vault.twins p q within is in
        let h = was_twin (read_value files p) (earlier_of (read_value files) p (read_value files p)) q (value p (Twin q) within is) in
        let same : h.0.resource ≡ t.backup.resource = (bytes_eq-Decides h.0.resource t.backup.resource).0 (sym (ap (holds_for t.backup.resource) h.2) ∙ t.same) in
        let owner_of = fresh.owner q t.backup t.side t.within t.found in
        let f = fresh.holds owner_of.owner q owner_of.is in
        let both : f.backup ≡ t.backup = (let e : Found f.backup f.side ≡ Found t.backup t.side = sym f.found ∙ t.found in cc) in
        record {
          value = read_value files p;
          fixed = as_read p within;
          kind = inr (record {
            backup = h.0;
            side = h.1;
            is = h.2;
            twin = record { pair = p; earlier = q; backup = t.backup; side = t.side; twin = is; found = t.found; same = sym same };
            named = record { number = owner_of.owner; below = f.below; is = sym f.named ∙ ap (λ (x : Backup). x.resource) both ∙ sym same };
          });
        }

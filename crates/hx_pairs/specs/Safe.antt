-- The invariant makes each moment safe.
use Rattle.std.specs.Prelude.{◌≡◌, ◌≢◌, ◌<◌, ℕ, zero, suc, ◌+◌, ◌*◌, Bool, true, false, bytes_eq, if◌then◌else◌, List, length, slice_index_or, Option, Some, None, option_map, refl}
use Rattle.std.proofs.Common.{sym, ◌∙◌, ap, subst, inl, ⊎_elim, arith}
use Rattle.std.proofs.lemmas.List.{get_or_past}
use Rattle.std.proofs.lemmas.Bool.{cases_lt}
use Rattle.std.proofs.lemmas.Slice.Eq.{bytes_eq-Decides}
use Rattle.hx_disk.specs.File.{FileState}
use Rattle.hx_disk.specs.Disk.{IsDiskImage}
use Rattle.hx_events.specs.declared.backup.Backup.{Backup}
use Rattle.hx_events.specs.declared.backup.Side.{Side}
use Rattle.hx_events.specs.declared.backup.Side.TheVariants.{A, B}
use Rattle.hx_events.specs.declared.life.Entry.{Entry}
use Rattle.hx_restore.specs.Values.{SideValue, Silent, side_of, pair_value, backup_for, holds_for, first_backup, shows}
use Rattle.hx_restore.specs.declared.value.PairValue.{PairValue}
use Rattle.hx_restore.specs.declared.value.PairValue.TheVariants.{Nothing, Broken, Held}
use Rattle.hx_restore.specs.Laws.{only_pair, shows_first}
use Rattle.hx_rules.specs.Allowed.{IsAmong, IsAllowed, allowed_of}
use Rattle.hx_rules.specs.Backups.{Snapshot, backup_of}
use Rattle.hx_rules.specs.Entries.{own}
use Rattle.hx_rules.specs.Legal.{restored_at}
use Rattle.hx_slots.specs.Files.{file_of}
use Rattle.hx_slots.specs.Frames.{shown_in}
use Rattle.hx_vault.specs.declared.pair.Pair.{Pair}
use Rattle.hx_vault.specs.declared.pair.PairUse.{PairUse}
use Rattle.hx_vault.specs.declared.pair.PairUse.TheVariants.{Free, Taken, Barred}
use Rattle.hx_vault.specs.Sides.{can_show}
use Rattle.hx_vault.specs.Vaults.{VaultState, pair_at, other_side}
use Rattle.hx_pairs.specs.Sufficient.{IsFine, value_at, enough, quiet_shows}
use Rattle.hx_lives.specs.Course.{Start, opening_at}
use Rattle.hx_lives.specs.CrashSafe.{safe_by, name_at, HasNoTwin, HasTwin, IsNamed, IsSafe}
use Rattle.hx_pairs.specs.Values.{HasOwnValues}
use Rattle.hx_pairs.specs.Words.{own_words}
use Rattle.hx_events.specs.declared.backup.PairFound.TheVariants.{Empty, Damaged}
use Rattle.hx_pairs.specs.AllPairs.{IsQuietPair, IsForeign, held_at, marks_at, IsHolder, PairsInvariant}

by_home : (home : Side) (p : ℕ) (image : ℕ → List ℕ) → value_at home (side_of (shown_in (image (file_of p home)))) (side_of (shown_in (image (file_of p (other_side home))))) ≡ pair_value image p
unfolding pair_value
by_home A p image = refl
by_home B p image = refl

owned_fine : (b : Start) (es : List Entry) (v : VaultState) (files : ℕ → FileState) (c p : ℕ) (image : ℕ → List ℕ) → IsHolder b es v files c p → IsDiskImage files image
    → IsFine (name_at b c) (allowed_of (marks_at b es c).done (marks_at b es c).tried (marks_at b es c).undone) (pair_value image p)
owned_fine b es v files c p image holder is =
    let o = holder.owned in
    let home : Side = (pair_at v p).home in
    let here : List ℕ = image (file_of p home) in
    let away : List ℕ = image (file_of p (other_side home)) in
    subst (IsFine (name_at b c) (allowed_of (marks_at b es c).done (marks_at b es c).tried (marks_at b es c).undone)) (by_home home p image)
    (enough (name_at b c) (marks_at b es c) home v.stamp o.here o.away o.keeps (shown_in here) (shown_in away)
    (can_show o.here (files (file_of p home)) o.sides.is_here here (is (file_of p home)))
    (can_show o.away (files (file_of p (other_side home))) o.sides.is_away away (is (file_of p (other_side home)))))

none_by_home : (home : Side) (x y : SideValue) → x ≡ Silent → y ≡ Silent → value_at home x y ≡ Nothing
none_by_home home x y is_x is_y = ap (λ (u : SideValue). value_at home u y) is_x ∙ ap (λ (u : SideValue). value_at home Silent u) is_y ∙ both home
  where
    both : (home : Side) → value_at home Silent Silent ≡ Nothing
    both A = refl
    both B = refl

quiet_nothing : (pair : Pair) (p : ℕ) (files : ℕ → FileState) (image : ℕ → List ℕ) → IsQuietPair pair p files → IsDiskImage files image → pair_value image p ≡ Nothing
quiet_nothing pair p files image quiet is =
    sym (by_home pair.home p image)
    ∙ none_by_home pair.home (side_of (shown_in (image (file_of p pair.home)))) (side_of (shown_in (image (file_of p (other_side pair.home)))))
    (quiet_shows quiet.here (shown_in (image (file_of p pair.home))) quiet.quiet_here (can_show quiet.here (files (file_of p pair.home)) quiet.sides.is_here (image (file_of p pair.home)) (is (file_of p pair.home))))
    (quiet_shows quiet.away (shown_in (image (file_of p (other_side pair.home)))) quiet.quiet_away (can_show quiet.away (files (file_of p (other_side pair.home))) quiet.sides.is_away (image (file_of p (other_side pair.home))) (is (file_of p (other_side pair.home)))))

-- a fine value of one resource has nothing of another
fine_other : (mine other : List ℕ) (allowed : List (Option Snapshot)) (v : PairValue) → IsFine mine allowed v → mine ≢ other → backup_for other v ≡ None
fine_other mine other allowed Nothing fine apart = refl
fine_other mine other allowed Broken fine apart = refl
fine_other mine other allowed (Held b side) fine apart = go (bytes_eq b.resource other) (bytes_eq-Decides b.resource other).0
  where
    go : (t : Bool) → (t ≡ true → b.resource ≡ other) → (if t then Some b else None) ≡ None
    go true h = absurd (apart (sym (ap (λ (k : Backup). k.resource) fine.2) ∙ h refl))
    go false h = refl

-- a fine value of the resource is allowed of it
fine_allowed : (resource : List ℕ) (allowed : List (Option Snapshot)) (v : PairValue) → IsFine resource allowed v → (s : Option Snapshot) × IsAmong s allowed × (backup_for resource v ≡ option_map (backup_of resource) s)
fine_allowed resource allowed Nothing fine = (None, fine, refl)
fine_allowed resource allowed Broken fine = absurd fine
fine_allowed resource allowed (Held b side) fine = (Some fine.0, fine.1, go (bytes_eq b.resource resource) ((bytes_eq-Decides b.resource resource).1 (ap (λ (k : Backup). k.resource) fine.2)) ∙ ap (λ (k : Backup). Some k) fine.2)
  where
    go : (t : Bool) → t ≡ true → (if t then Some b else None) ≡ Some b
    go true h = refl
    go false h = absurd cc

foreign_value : (b : Start) (files : ℕ → FileState) (image : ℕ → List ℕ) (q : ℕ) (f : IsForeign b q files) → IsDiskImage files image → pair_value image q ≡ f.value
unfolding pair_value
foreign_value b files image q f is = f.fixed (image (2 * q)) (image (2 * q + 1)) (is (2 * q)) (is (2 * q + 1))

held_none : (backup : Backup) (side : Side) (resource : List ℕ) → backup.resource ≢ resource → backup_for resource (Held backup side) ≡ None
held_none backup side resource apart = go (bytes_eq backup.resource resource) (bytes_eq-Decides backup.resource resource).0
  where
    go : (t : Bool) → (t ≡ true → backup.resource ≡ resource) → (if t then Some backup else None) ≡ None
    go true h = absurd (apart (h refl))
    go false h = refl

foreign_none : (b : Start) (files : ℕ → FileState) (image : ℕ → List ℕ) (q c : ℕ) → IsForeign b q files → IsDiskImage files image → c < length b.names → HasNoTwin b.base (name_at b c) → backup_for (name_at b c) (pair_value image q) ≡ None
foreign_none b files image q c f is below alone = ap (backup_for (name_at b c)) (foreign_value b files image q f is) ∙ ⊎_elim
    (λ bad. ap (backup_for (name_at b c)) bad.0)
    (λ t. ap (backup_for (name_at b c)) t.is ∙ held_none t.backup t.side (name_at b c) (λ e. alone (subst (HasTwin b.base) e t.twin)))
    f.kind

pub held_below : (held : List (Option ℕ)) (n k q : ℕ) → length held ≡ n → held_at held k ≡ Some q → k < n
held_below held n k q long is_held = ⊎_elim
    (λ lt. omega (arith, lt, long))
    (λ ge. absurd (let e : Some q ≡ None = sym is_held ∙ get_or_past held k None ge in cc))
    (cases_lt k (length held))

-- no other pair has a backup of the resource
others_none : (b : Start) (es : List Entry) (v : VaultState) (held : List (Option ℕ)) (files : ℕ → FileState) (image : ℕ → List ℕ) (c : ℕ) → PairsInvariant b es v held files → IsDiskImage files image → c < length b.names → HasNoTwin b.base (name_at b c)
    → (q : ℕ) → q < 64 → held_at held c ≢ Some q → backup_for (name_at b c) (pair_value image q) ≡ None
others_none b es v held files image c kept is below alone q within apart = by_use (pair_at v q).used refl
  where
    inside : (k : ℕ) → held_at held k ≡ Some q → k < length b.names
    inside k is_held = held_below held (length b.names) k q kept.owners is_held

    by_use : (u : PairUse) → (pair_at v q).used ≡ u → backup_for (name_at b c) (pair_value image q) ≡ None
    by_use Free used = ap (backup_for (name_at b c)) (quiet_nothing (pair_at v q) q files image (kept.free q within used) is)
    by_use Taken used =
        let h = kept.owned q within used in
        fine_other (name_at b h.owner) (name_at b c) (allowed_of (marks_at b es h.owner).done (marks_at b es h.owner).tried (marks_at b es h.owner).undone) (pair_value image q)
        (owned_fine b es v files h.owner q image (kept.taken h.owner q h.is) is)
        (λ same. apart (subst (λ k. held_at held k ≡ Some q) (kept.names h.owner c (inside h.owner h.is) below same) h.is))
    by_use Barred used = foreign_none b files image q c (kept.barred q within used) is below alone

skip : (x rest : Option Backup) → x ≡ None → elim x as (λ _. Option Backup) [ Some b ↦ Some b | None ↦ rest ] ≡ rest
skip None rest none = refl
skip (Some b) rest none = absurd cc

none_first : (resource : List ℕ) (values : ℕ → PairValue) (i n : ℕ) → ((q : ℕ) → q < i + n → backup_for resource (values q) ≡ None) → first_backup resource values i n ≡ None
none_first resource values i zero none = refl
none_first resource values i (suc n) none = skip (backup_for resource (values i)) (first_backup resource values (i + 1) n) (none i (omega arith)) ∙ none_first resource values (i + 1) n (λ q lt. none q (omega (arith, lt)))

all_none : (resource : List ℕ) (values : ℕ → PairValue) (n : ℕ) → ((q : ℕ) → q < n → backup_for resource (values q) ≡ None) → first_backup resource values 0 n ≡ None
all_none resource values n none = none_first resource values 0 n (λ q lt. none q (omega (arith, lt)))

-- who holds the pair whose value holds this resource
holds_is : (resource : List ℕ) (value : PairValue) (backup : Backup) (side : Side) → value ≡ Held backup side → holds_for resource value ≡ true → backup.resource ≡ resource
holds_is resource value backup side is h = (bytes_eq-Decides backup.resource resource).0 (sym (ap (holds_for resource) is) ∙ h)

fine_held : (resource : List ℕ) (allowed : List (Option Snapshot)) (value : PairValue) (backup : Backup) (side : Side) → IsFine resource allowed value → value ≡ Held backup side → backup.resource ≡ resource
fine_held resource allowed value backup side fine is = let f = subst (IsFine resource allowed) is fine in ap (λ (k : Backup). k.resource) f.2

fine_broken : (resource : List ℕ) (allowed : List (Option Snapshot)) (value : PairValue) → IsFine resource allowed value → value ≡ Broken → ⊥
fine_broken resource allowed value fine is = subst (IsFine resource allowed) is fine

-- a fine value that holds a resource holds its own
fine_holds : (mine other : List ℕ) (allowed : List (Option Snapshot)) (v : PairValue) → IsFine mine allowed v → holds_for other v ≡ true → mine ≡ other
fine_holds mine other allowed Nothing fine h = absurd cc
fine_holds mine other allowed Broken fine h = absurd cc
fine_holds mine other allowed (Held b side) fine h = sym (ap (λ (k : Backup). k.resource) fine.2) ∙ (bytes_eq-Decides b.resource other).0 h

twin_of : (b : Start) (q : ℕ) (files : ℕ → FileState) (image : ℕ → List ℕ) (resource : List ℕ) → IsForeign b q files → IsDiskImage files image → holds_for resource (pair_value image q) ≡ true → HasTwin b.base resource
twin_of b q files image resource f is h =
    let held : holds_for resource f.value ≡ true = sym (ap (holds_for resource) (foreign_value b files image q f is)) ∙ h in
    ⊎_elim
    (λ bad. absurd (let e : false ≡ true = sym (ap (holds_for resource) bad.0) ∙ held in cc))
    (λ t. subst (HasTwin b.base) (holds_is resource f.value t.backup t.side t.is held) t.twin)
    f.kind

pub kept_told : (b : Start) (es : List Entry) (v : VaultState) (held : List (Option ℕ)) (files : ℕ → FileState) (image : ℕ → List ℕ) → PairsInvariant b es v held files → IsDiskImage files image → HasOwnValues b image
kept_told b es v held files image kept is = record {
  names = λ p backup side within has. named p backup side within has (pair_at v p).used refl;
  broken = λ p within bad. damaged p within bad (pair_at v p).used refl;
  twins = λ p q resource in_p in_q apart h_p h_q. twin p q resource in_p in_q apart h_p h_q (pair_at v p).used refl (pair_at v q).used refl;
}
  where
    allowed : ℕ → List (Option Snapshot)
    allowed c = allowed_of (marks_at b es c).done (marks_at b es c).tried (marks_at b es c).undone

    fine : (c p : ℕ) → held_at held c ≡ Some p → IsFine (name_at b c) (allowed c) (pair_value image p)
    fine c p h = owned_fine b es v files c p image (kept.taken c p h) is

    nothing : (p : ℕ) → p < 64 → (pair_at v p).used ≡ Free → pair_value image p ≡ Nothing
    nothing p within used = quiet_nothing (pair_at v p) p files image (kept.free p within used) is

    named : (p : ℕ) (backup : Backup) (side : Side) → p < 64 → pair_value image p ≡ Held backup side → (u : PairUse) → (pair_at v p).used ≡ u → IsNamed b.names backup.resource
    named p backup side within has Free used = absurd (let e : Nothing ≡ Held backup side = sym (nothing p within used) ∙ has in cc)
    named p backup side within has Taken used =
        let h = kept.owned p within used in
        record { number = h.owner; below = held_below held (length b.names) h.owner p kept.owners h.is; is = sym (fine_held (name_at b h.owner) (allowed h.owner) (pair_value image p) backup side (fine h.owner p h.is) has) }
    named p backup side within has Barred used =
        let f = kept.barred p within used in
        let value : f.value ≡ Held backup side = sym (foreign_value b files image p f is) ∙ has in
        ⊎_elim
        (λ bad. absurd (let e : Broken ≡ Held backup side = sym bad.0 ∙ value in cc))
        (λ t. let e : t.backup ≡ backup = (let k : Held t.backup t.side ≡ Held backup side = sym t.is ∙ value in cc) in subst (λ (x : Backup). IsNamed b.names x.resource) e t.named)
        f.kind

    damaged : (p : ℕ) → p < 64 → pair_value image p ≡ Broken → (u : PairUse) → (pair_at v p).used ≡ u → slice_index_or b.base p Empty ≡ Damaged
    damaged p within bad Free used = absurd (let e : Nothing ≡ Broken = sym (nothing p within used) ∙ bad in cc)
    damaged p within bad Taken used = let h = kept.owned p within used in absurd (fine_broken (name_at b h.owner) (allowed h.owner) (pair_value image p) (fine h.owner p h.is) bad)
    damaged p within bad Barred used =
        let f = kept.barred p within used in
        ⊎_elim
        (λ d. d.1)
        (λ t. absurd (let e : Broken ≡ Held t.backup t.side = sym bad ∙ foreign_value b files image p f is ∙ t.is in cc))
        f.kind

    twin : (p q : ℕ) (resource : List ℕ) → p < 64 → q < 64 → p ≢ q → holds_for resource (pair_value image p) ≡ true → holds_for resource (pair_value image q) ≡ true
        → (u : PairUse) → (pair_at v p).used ≡ u → (w : PairUse) → (pair_at v q).used ≡ w → HasTwin b.base resource
    twin p q resource in_p in_q apart h_p h_q Free used_p w used_q = absurd (let e : false ≡ true = sym (ap (holds_for resource) (nothing p in_p used_p)) ∙ h_p in cc)
    twin p q resource in_p in_q apart h_p h_q Barred used_p w used_q = twin_of b p files image resource (kept.barred p in_p used_p) is h_p
    twin p q resource in_p in_q apart h_p h_q Taken used_p Free used_q = absurd (let e : false ≡ true = sym (ap (holds_for resource) (nothing q in_q used_q)) ∙ h_q in cc)
    twin p q resource in_p in_q apart h_p h_q Taken used_p Barred used_q = twin_of b q files image resource (kept.barred q in_q used_q) is h_q
    twin p q resource in_p in_q apart h_p h_q Taken used_p Taken used_q =
        let a = kept.owned p in_p used_p in
        let z = kept.owned q in_q used_q in
        let same : name_at b a.owner ≡ name_at b z.owner = fine_holds (name_at b a.owner) resource (allowed a.owner) (pair_value image p) (fine a.owner p a.is) h_p ∙ sym (fine_holds (name_at b z.owner) resource (allowed z.owner) (pair_value image q) (fine z.owner q z.is) h_q) in
        let one : a.owner ≡ z.owner = kept.names a.owner z.owner (held_below held (length b.names) a.owner p kept.owners a.is) (held_below held (length b.names) z.owner q kept.owners z.is) same in
        absurd (apart (let e : Some p ≡ Some q = sym a.is ∙ ap (held_at held) one ∙ z.is in cc))

shown : (b : Start) (es : List Entry) (v : VaultState) (held : List (Option ℕ)) (files : ℕ → FileState) (image : ℕ → List ℕ) → PairsInvariant b es v held files → IsDiskImage files image → (c : ℕ) → c < length b.names → HasNoTwin b.base (name_at b c) → IsAllowed (name_at b c) (restored_at (opening_at b) c) (own c es) (shows image (name_at b c))
shown b es v held files image kept is c below alone = by_pair (held_at held c) refl
  where
    ok : Option Backup → Type 0
    ok found = IsAllowed (name_at b c) (restored_at (opening_at b) c) (own c es) found

    none_is : (held_at held c ≡ None) → shows image (name_at b c) ≡ None
    none_is lacks =
        shows_first (name_at b c) image
        ∙ all_none (name_at b c) (pair_value image) 64 (λ q within. others_none b es v held files image c kept is below alone q within (λ e. let f : Some q ≡ None = sym e ∙ lacks in cc))

    by_pair : (h : Option ℕ) → held_at held c ≡ h → IsAllowed (name_at b c) (restored_at (opening_at b) c) (own c es) (shows image (name_at b c))
    by_pair None lacks = (None, inl (sym (kept.lacking c lacks)), none_is lacks)
    by_pair (Some p) holds =
        let holder = kept.taken c p holds in
        let fine = fine_allowed (name_at b c) (allowed_of (marks_at b es c).done (marks_at b es c).tried (marks_at b es c).undone) (pair_value image p) (owned_fine b es v files c p image holder is) in (
          fine.0,
          fine.1,
          shows_first (name_at b c) image
              ∙ only_pair (name_at b c) (pair_value image) p holder.below (λ q within apart. others_none b es v held files image c kept is below alone q within (λ e. apart (let f : Some p ≡ Some q = sym holds ∙ e in cc)))
              ∙ fine.2,
        )

pub kept_safe : (b : Start) (es : List Entry) (v : VaultState) (held : List (Option ℕ)) (files : ℕ → FileState) → PairsInvariant b es v held files → IsSafe b es files
kept_safe b es v held files kept = safe_by b es files (λ image is. record {
  allowed = shown b es v held files image kept is;
  no_other = own_words b image (kept_told b es v held files image kept is);
})

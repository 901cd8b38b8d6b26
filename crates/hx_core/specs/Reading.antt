-- What the readers say follows from what is kept.
use Rattle.std.specs.Prelude.{ℕ, suc, ◌≡◌, ◌+◌, ◌-◌, ◌<◌, ◌≤◌, nat_lt, Bool, true, false, ◌&&◌, List, [], ◌∷◌, ◌++◌, Option, Some, None, is_some, option_map, slice_get, IfSome, OnOk, Result, Ok, Err, refl}
use Rattle.std.proofs.Common.{arith, ap, sym, ◌∙◌, subst, cond, append_assoc, ⊎_elim}
use Rattle.std.proofs.lemmas.Bool.Decides.{nat_tests}
use Rattle.hx_events.specs.declared.backup.Backup.{Backup}
use Rattle.hx_events.specs.declared.copies.CopyFact.{CopyFact}
use Rattle.hx_events.specs.declared.event.Command.TheVariants.{Open, Revert}
use Rattle.hx_events.specs.declared.event.Event.{Event}
use Rattle.hx_events.specs.declared.event.Event.TheVariants.{Act, Vault, Flush, Quit}
use Rattle.hx_events.specs.declared.life.Entry.{Entry}
use Rattle.hx_rules.specs.declared.saves.Running.{Running}
use Rattle.hx_rules.specs.Entries.{Deed, own, past}
use Rattle.hx_rules.specs.Versions.{version_at, versions, last_version}
use Rattle.hx_rules.specs.Copies.{registered}
use Rattle.hx_rules.specs.Saves.{running, save_steps}
use Rattle.hx_rules.specs.Due.{run_version}
use Rattle.hx_rules.specs.Legal.{Opening, restored_at, vault_due, save_due}
use Rattle.hx_tracker.specs.Index.{has_number}
use Rattle.hx_resource.specs.Kept.{Kept, ResourceState, dirty_now}
use Rattle.hx_resource.specs.Rows.{is_backed}
use Rattle.hx_resource.specs.Rooms.{HasRoom, copied_by}
use Rattle.hx_resource_laws.specs.Fits.{IsVersion, Fits}
use Rattle.hx_resource_laws.specs.CopyFits.{dirty_is}
use Rattle.hx_resource_laws.specs.RowFits.{facts_same}
use Rattle.hx_core.specs.Registered.{registered_at, fact_at, copies_from}
use Rattle.hx_core.specs.Cores.{IsCore, Indexes, named}
use Rattle.hx_core.specs.Keeping.{slice_get_set, length_set}
use Rattle.hx_core.specs.States.{state_of, state_by}
use lib.ListN.{set}

pub mapped_if : {A B : Type 0} (f : A → B) (P : B → Type 0) (x : Option A) (y : Option B) → option_map f x ≡ y → IfSome y P → IfSome x (λ a. P (f a))
mapped_if f P None y is has = tt
mapped_if f P (Some a) y is has = subst (λ z. IfSome z P) (sym is) has

pub mapped_some : {A B : Type 0} (f : A → B) (x : Option A) (y : Option B) → option_map f x ≡ y → is_some x ≡ is_some y
mapped_some f None y is = ap is_some is
mapped_some f (Some a) y is = ap is_some is

-- what stands in an option, told by another word for it
pub if_same : {A B : Type 0} (f : A → B) (x : Option A) (u v : B) → IfSome x (λ a. f a ≡ u) → (is_some x ≡ true → u ≡ v) → IfSome x (λ a. f a ≡ v)
if_same f None u v has same = tt
if_same f (Some a) u v has same = has ∙ same refl

pub on_ok_map : {A E : Type 0} (r : Result A E) (P Q : Type 0) → (P → Q) → OnOk r P → OnOk r Q
on_ok_map (Ok a) P Q f h = f h
on_ok_map (Err e) P Q f h = h

run_content : (last : ℕ) (r : Option Backup) (ds : List Deed) (run : Option Running) (there : Bool) (saving : List ℕ) → is_some run ≡ true → IfSome run (λ x. (there ≡ true) × IsVersion last (versions r ds) (record { id = x.version; content = saving })) → saving ≡ (version_at (run_version run) (versions r ds)).content
run_content last r ds None there saving some fits = absurd cc
run_content last r ds (Some x) there saving some fits = ap (λ v. v.content) (sym fits.1.content)

-- what is kept for a running save is the content of its version
pub saving_is : (r : Option Backup) (guarded : Bool) (ds : List Deed) (s : Kept) → Fits r guarded ds s → is_some s.seq.run ≡ true → s.saving ≡ (version_at (run_version (running (save_steps r ds))) (versions r ds)).content
saving_is r guarded ds s fits runs =
    run_content (last_version r ds) r ds s.seq.run (is_some s.copy) s.saving runs fits.run ∙ ap (λ x. (version_at (run_version x) (versions r ds)).content) fits.seq.run

pub state_is : (r : Option Backup) (guarded : Bool) (ds : List Deed) (s : Kept) → Fits r guarded ds s → state_by (is_some s.copy) (is_some s.seq.run) (dirty_now s.copy) ≡ state_of r ds
state_is r guarded ds s fits =
    ap (λ b. state_by b (is_some s.seq.run) (dirty_now s.copy)) fits.there
    ∙ (ap (λ x. state_by (registered r ds) (is_some x) (dirty_now s.copy)) fits.seq.run
    ∙ ap (λ b. state_by (registered r ds) (is_some (running (save_steps r ds))) b) (dirty_is r ds s.copy fits.there fits.copy))

inside : (k n : ℕ) → k < n → nat_lt k n ≡ true
inside k n h = grind (arith, nat_tests)

pub index_says : (count : ℕ) (due index : ℕ → Bool) → Indexes count due index → (k : ℕ) → k < count → index k ≡ due k
index_says count due index is k lt = is k ∙ ap (λ b. b && due k) (inside k count lt)

-- ---- room
fewer : (guarded : Bool) (event : Event) (n read room : ℕ) (s : Kept) → n ≤ read → copied_by guarded event read s ≤ room → copied_by guarded event n s ≤ room
fewer guarded (Act (Open c)) n read room s le has = omega (arith, le, has)
fewer guarded (Act (Revert c)) n read room s le has = omega (arith, le, has)
fewer guarded (Act _) n read room s le has = has
fewer guarded (Vault c) n read room s le has = has
fewer guarded (Flush c) n read room s le has = has
fewer guarded Quit n read room s le has = has

less_room : (guarded : Bool) (event : Event) (n read : ℕ) (s : ResourceState) → n ≤ read → HasRoom guarded event read s → HasRoom guarded event n s
less_room guarded event n read s le room = record { copy = room.copy; tickets = room.tickets; bytes = fewer guarded event n read s.spare s.kept le room.bytes }

same_number : (c i : ℕ) → (Some c ≡ Some i) → c ≡ i
same_number c i h = cc

-- room made at the event's resource
pub resource_room : (guarded : Bool) (event : Event) (read : ℕ) (resources : List ResourceState) (i : ℕ) (t : ResourceState) → named event ≡ Some i → HasRoom guarded event read t
    → (n : ℕ) → n ≤ read → (c : ℕ) (r : ResourceState) → named event ≡ Some c → slice_get (set resources i t) c ≡ Some r → HasRoom guarded event n r
resource_room guarded event read resources i t is room n le c r at got =
    ⊎_elim (λ a. subst (λ (x : ResourceState). HasRoom guarded event n x) (sym a.1) (less_room guarded event n read t le room))
    (λ b. let other = b.0 in absurd (other (same_number c i (sym at ∙ is))))
    (slice_get_set resources i c t r got)

-- a change of what there is room for changes nothing that is kept
pub room_keeps : (o : Opening) (first : List (ℕ × ℕ)) (resources : List ResourceState) (pairs : List (ℕ × ℕ)) (h : List Entry) (spent : Bool) (vault save : List Bool) (i : ℕ) (s t : ResourceState)
    → IsCore o first resources pairs h spent vault save → slice_get resources i ≡ Some s → t.kept ≡ s.kept → IsCore o first (set resources i t) pairs h spent vault save
room_keeps o first resources pairs h spent vault save i s t core at is = record {
  kept = record {
    legal = core.kept.legal;
    count = length_set resources i t ∙ core.kept.count;
    fits = λ k u got. ⊎_elim
        (λ a. subst (λ (v : ResourceState). Fits (restored_at o k) o.guarded (own k (past h)) v.kept) (sym a.1)
        (subst (λ (v : Kept). Fits (restored_at o k) o.guarded (own k (past h)) v) (sym is) (core.kept.fits k s (subst (λ (j : ℕ). slice_get resources j ≡ Some s) (sym a.0) at))))
        (λ b. core.kept.fits k u b.1)
        (slice_get_set resources i k t u got);
    backups = core.kept.backups;
    spent = core.kept.spent;
    vault = subst (λ (n : ℕ). Indexes n (λ k. is_some (vault_due o (past h) k)) (has_number vault)) (sym (length_set resources i t)) core.kept.vault;
    save = subst (λ (n : ℕ). Indexes n (λ k. is_some (save_due o (past h) k)) (has_number save)) (sym (length_set resources i t)) core.kept.save;
  };
  starts = core.starts;
  few = subst (λ (n : ℕ). n ≤ 256) (sym (length_set resources i t)) core.few;
  barred = core.barred;
  vault = core.vault;
  save = core.save;
}

-- ---- the registered copies
abbrev fact_by : ℕ → Bool → Bool → CopyFact
fact_by c is_dirty is_backed_up = record { res = c; dirty = is_dirty; backed = is_backed_up }

pub fact_is : (o : Opening) (es : List Entry) (c : ℕ) (s : Kept) → Fits (restored_at o c) o.guarded (own c es) s → fact_by c (dirty_now s.copy) (is_backed s.last s.done) ≡ fact_at o es c
fact_is o es c s fits = ap (λ f. fact_by c f.dirty f.backed) (facts_same (restored_at o c) o.guarded (own c es) s fits)

pub copies_more : (o : Opening) (es : List Entry) (i n : ℕ) → i < n → registered_at o es i ≡ true → copies_from o es i (n - i) ≡ fact_at o es i ∷ copies_from o es (i + 1) (n - (i + 1))
copies_more o es i n less is =
    let more : n - i ≡ suc (n - (i + 1)) = omega (arith, less) in
    ap (copies_from o es i) more ∙ ap (λ b. cond b (fact_at o es i ∷ copies_from o es (i + 1) (n - (i + 1))) (copies_from o es (i + 1) (n - (i + 1)))) is

pub copies_same : (o : Opening) (es : List Entry) (i n : ℕ) → i < n → registered_at o es i ≡ false → copies_from o es i (n - i) ≡ copies_from o es (i + 1) (n - (i + 1))
copies_same o es i n less is =
    let more : n - i ≡ suc (n - (i + 1)) = omega (arith, less) in
    ap (copies_from o es i) more ∙ ap (λ b. cond b (fact_at o es i ∷ copies_from o es (i + 1) (n - (i + 1))) (copies_from o es (i + 1) (n - (i + 1)))) is

pub copies_none : (o : Opening) (es : List Entry) (i n : ℕ) → n ≤ i → copies_from o es i (n - i) ≡ []
copies_none o es i n le =
    let none : n - i ≡ 0 = omega (arith, le) in
    ap (copies_from o es i) none

pub copies_push : (old grown : List CopyFact) (fact : CopyFact) (all here rest : List CopyFact) → all ≡ old ++ here → here ≡ fact ∷ rest → grown ≡ old ++ fact ∷ [] → all ≡ grown ++ rest
copies_push old grown fact all here rest is more pushed = is ∙ (ap (λ xs. old ++ xs) more ∙ (sym (append_assoc old (fact ∷ []) rest) ∙ ap (λ xs. xs ++ rest) (sym pushed)))

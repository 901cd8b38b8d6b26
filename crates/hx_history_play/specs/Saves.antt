-- What the answers say of the entries.
use Rattle.std.specs.Prelude.{◌≡◌, ◌≢◌, ◌≤◌, ◌<◌, ◌+◌, ◌-◌, ◌==◌, ◌⊎◌, ℕ, zero, suc, Bool, true, false, ◌&&◌, bytes_eq, nat_le, nat_lt, IsTrue, if◌then◌else◌, List, [], ◌∷◌, ◌++◌, length, drop, get_or, slice_get, Some, refl}
use Rattle.std.proofs.Common.{sym, ◌∙◌, ap, subst, arith, ⊎_elim}
use Rattle.std.proofs.lemmas.Bool.Decides.{nat_tests}
use Rattle.std.proofs.lemmas.List.{length-drop}
use Rattle.std.proofs.lemmas.Option.{slice_get_within, get_or_from_slice_get}
use Rattle.std.proofs.lemmas.Slice.Eq.{bytes_eq-Decides}
use Rattle.hx_history_laws.specs.declared.entry.HistoryEntry.{HistoryEntry}
use Rattle.hx_history_laws.specs.Kept.{Save, entry_of, joins, kept, last_50, last_all, last_number, next, next_of_kept, number_at_last, with_save}
use Rattle.hx_history_script.specs.declared.answer.Answer.{Answer}
use Rattle.hx_history_script.specs.declared.answer.Answer.TheVariants.{Kept, Merged, TooLarge, Spent, FaultIn, FaultOut, Crashed}
use Rattle.hx_history_script.specs.declared.script.HistoryLine.{HistoryLine}
use Rattle.hx_history_script.specs.declared.script.HistoryLine.TheVariants.{Saved, Crash}
use Rattle.hx_history_play.specs.Answered.{IsAnswered, ends_with, fault_answer, is_in, save_at, with_saved}

-- ---- the last entry

and_left : (a b : Bool) → (a && b) ≡ true → a ≡ true
and_left true b is = refl
and_left false b is = absurd cc

and_right : (a b : Bool) → (a && b) ≡ true → b ≡ true
and_right true b is = is
and_right false b is = absurd cc

same_bytes : (bytes : List ℕ) → bytes_eq bytes bytes ≡ true
same_bytes bytes = (bytes_eq-Decides bytes bytes).1 refl

same_number : (n : ℕ) → (n == n) ≡ true
same_number n = grind (arith, nat_tests)

-- a list that ends with an entry of the save
ends_so : (es : List HistoryEntry) (number : ℕ) (save : Save) → ends_with (es ++ entry_of number save ∷ []) save ≡ true
ends_so [] number save = ap (λ (b : Bool). b && bytes_eq save.content save.content) (same_number save.moment) ∙ same_bytes save.content
ends_so (e ∷ []) number save = ends_so [] number save
ends_so (e ∷ f ∷ es) number save = ends_so (f ∷ es) number save

ends_behind : (e : HistoryEntry) (es : List HistoryEntry) (save : Save) → 0 < length es → ends_with (e ∷ es) save ≡ ends_with es save
ends_behind e [] save some = absurd (omega (arith, some))
ends_behind e (f ∷ es) save some = refl

ends_dropped : (k : ℕ) (es : List HistoryEntry) (save : Save) → k < length es → ends_with (drop k es) save ≡ ends_with es save
ends_dropped zero es save lt = refl
ends_dropped (suc k) [] save lt = absurd (omega (arith, lt))
ends_dropped (suc k) (e ∷ []) save lt = absurd (omega (arith, lt))
ends_dropped (suc k) (e ∷ f ∷ es) save lt = ends_dropped k (f ∷ es) save (omega (arith, lt))

some_ends : (es : List HistoryEntry) (save : Save) → ends_with es save ≡ true → 0 < length es
some_ends [] save is = absurd cc
some_ends (e ∷ es) save is = omega arith

ends_with_save : (es : List HistoryEntry) (save : Save) → ends_with (with_save es save) save ≡ true
ends_with_save [] save = ends_so [] 1 save
ends_with_save (e ∷ []) save = go (joins e.moment save.moment)
  where
    go : (j : Bool) → ends_with (if j then entry_of e.number save ∷ [] else e ∷ entry_of (e.number + 1) save ∷ []) save ≡ true
    go true = ends_so [] e.number save
    go false = ends_so [] (e.number + 1) save
ends_with_save (e ∷ f ∷ es) save =
    let ih = ends_with_save (f ∷ es) save in
    ends_behind e (with_save (f ∷ es) save) save (some_ends (with_save (f ∷ es) save) save ih) ∙ ih

-- What is kept of one save more ends with it.
pub next_ends : (es : List HistoryEntry) (save : Save) → ends_with (next es save) save ≡ true
next_ends es save =
    let all : List HistoryEntry = with_save es save in
    let some = some_ends all save (ends_with_save es save) in
    ends_dropped (length all - 50) all save (omega (arith, some)) ∙ ends_with_save es save

at_least : (m n : ℕ) → m ≡ n → nat_le m n ≡ true
at_least m n same = grind (arith, nat_tests)

less_than : (m n more : ℕ) → m ≡ n → 0 < more → nat_lt n (m + more) ≡ true
less_than m n more same some = grind (arith, nat_tests)

same_joins : (m n : ℕ) → m ≡ n → joins m n ≡ true
same_joins m n same = ap (λ (b : Bool). b && nat_lt n (m + 10000)) (at_least m n same) ∙ less_than m n 10000 same (omega arith)

same_entry : (e : HistoryEntry) (moment : ℕ) (content : List ℕ) → e.moment ≡ moment → e.content ≡ content → record { number = e.number; moment = moment; content = content } ≡ e
same_entry e moment content at is = subst (λ m. record { number = e.number; moment = m; content = content } ≡ e) at (subst (λ (c : List ℕ). record { number = e.number; moment = e.moment; content = c } ≡ e) is refl)

same_moment : (m n : ℕ) → (m == n) ≡ true → m ≡ n
same_moment m n is = grind (arith, nat_tests)

-- A save that the last entry is already changes nothing.
again : (es : List HistoryEntry) (save : Save) → ends_with es save ≡ true → with_save es save ≡ es
again [] save is = absurd cc
again (e ∷ []) save is =
    let at : e.moment ≡ save.moment = same_moment e.moment save.moment (and_left (e.moment == save.moment) (bytes_eq e.content save.content) is) in
    let same : e.content ≡ save.content = (bytes_eq-Decides e.content save.content).0 (and_right (e.moment == save.moment) (bytes_eq e.content save.content) is) in
    ap (λ (j : Bool). if j then entry_of e.number save ∷ [] else e ∷ entry_of (e.number + 1) save ∷ []) (same_joins e.moment save.moment at)
    ∙ ap (λ (x : HistoryEntry). x ∷ []) (same_entry e save.moment save.content at same)
again (e ∷ f ∷ es) save is = ap (λ (l : List HistoryEntry). e ∷ l) (again (f ∷ es) save is)

pub next_again : (es : List HistoryEntry) (save : Save) → length es ≤ 50 → ends_with es save ≡ true → next es save ≡ es
next_again es save few is = ap (λ (l : List HistoryEntry). last_50 l) (again es save is) ∙ last_all es few

-- ---- a save at which the disk failed

-- Of the entries before it or behind it, those that end with the save are those behind it.
pub found_in : (es fs : List HistoryEntry) (save : Save) → length es ≤ 50 → (fs ≡ es) ⊎ (fs ≡ next es save) → ends_with fs save ≡ true → fs ≡ next es save
found_in es fs save few either is = ⊎_elim
    (λ old. old ∙ sym (next_again es save few (subst (λ (l : List HistoryEntry). ends_with l save ≡ true) old is)))
    (λ new. new)
    either

-- Those that don't are the ones before it, and the save would have changed them.
pub found_out : (es fs : List HistoryEntry) (save : Save) → (fs ≡ es) ⊎ (fs ≡ next es save) → ends_with fs save ≡ false → (fs ≡ es) × (es ≢ next es save)
found_out es fs save either is = ⊎_elim
    (λ old. (old, λ same. never (subst (λ (l : List HistoryEntry). ends_with l save ≡ false) (old ∙ same) is)))
    (λ new. absurd (never (subst (λ (l : List HistoryEntry). ends_with l save ≡ false) new is)))
    either
  where
    never : ends_with (next es save) save ≡ false → ⊥
    never odd = absurd (let no : false ≡ true = sym odd ∙ next_ends es save in cc)

pub answered_fault : (tells : Bool) (moment : ℕ) (content : List ℕ) (es fs : List HistoryEntry) → (IsTrue tells → length es ≤ 50) → (IsTrue tells → (fs ≡ es) ⊎ (fs ≡ next es (save_at moment content))) → IsAnswered tells (Saved moment content) (fault_answer fs (save_at moment content)) es fs
answered_fault tells moment content es fs few either = go (ends_with fs (save_at moment content)) refl
  where
    go : (b : Bool) → ends_with fs (save_at moment content) ≡ b → IsAnswered tells (Saved moment content) (if b then FaultIn else FaultOut) es fs
    go true is = (is, λ told. found_in es fs (save_at moment content) (few told) (either told) is)
    go false is = (is, λ told. found_out es fs (save_at moment content) (either told) is)

-- no more than 50 entries are kept
few_next : (es : List HistoryEntry) (save : Save) → length (next es save) ≤ 50
few_next es save = omega (arith, length-drop (length (with_save es save) - 50) (with_save es save))

same_few : (es fs : List HistoryEntry) → fs ≡ es → length es ≤ 50 → length fs ≤ 50
same_few es fs same few = let e = ap (λ (l : List HistoryEntry). length l) same in omega (arith, e, few)

pub few_more : (tells : Bool) (line : HistoryLine) (answer : Answer) (es fs : List HistoryEntry) → IsTrue tells → IsAnswered tells line answer es fs → length es ≤ 50 → length fs ≤ 50
few_more tells (Saved moment content) (Kept number) es fs told is few = same_few (next es (save_at moment content)) fs is.1 (few_next es (save_at moment content))
few_more tells (Saved moment content) (Merged number) es fs told is few = same_few (next es (save_at moment content)) fs is.1 (few_next es (save_at moment content))
few_more tells (Saved moment content) TooLarge es fs told is few = same_few es fs is.1 few
few_more tells (Saved moment content) Spent es fs told is few = same_few es fs is.1 few
few_more tells (Saved moment content) FaultIn es fs told is few = same_few (next es (save_at moment content)) fs (is.1 told) (few_next es (save_at moment content))
few_more tells (Saved moment content) FaultOut es fs told is few = same_few es fs (is.1 told).0 few
few_more tells (Saved moment content) Crashed es fs told is few = absurd is
few_more tells (Crash pick) Crashed es fs told is few = same_few es fs (is told) few
few_more tells (Crash pick) (Kept number) es fs told is few = absurd is
few_more tells (Crash pick) (Merged number) es fs told is few = absurd is
few_more tells (Crash pick) TooLarge es fs told is few = absurd is
few_more tells (Crash pick) Spent es fs told is few = absurd is
few_more tells (Crash pick) FaultIn es fs told is few = absurd is
few_more tells (Crash pick) FaultOut es fs told is few = absurd is

-- ---- all saves

-- Where nothing was kept at first, what is kept behind one line more is what is kept of the saves that are in.
pub kept_more : (tells : Bool) (line : HistoryLine) (answer : Answer) (es fs : List HistoryEntry) (saves : List Save) → IsTrue tells → IsAnswered tells line answer es fs → es ≡ kept saves → fs ≡ kept (with_saved (is_in answer) line saves)
kept_more tells (Saved moment content) (Kept number) es fs saves told is so_far = is.1 ∙ ap (λ (l : List HistoryEntry). next l (save_at moment content)) so_far ∙ sym (next_of_kept saves (save_at moment content))
kept_more tells (Saved moment content) (Merged number) es fs saves told is so_far = is.1 ∙ ap (λ (l : List HistoryEntry). next l (save_at moment content)) so_far ∙ sym (next_of_kept saves (save_at moment content))
kept_more tells (Saved moment content) TooLarge es fs saves told is so_far = is.1 ∙ so_far
kept_more tells (Saved moment content) Spent es fs saves told is so_far = is.1 ∙ so_far
kept_more tells (Saved moment content) FaultIn es fs saves told is so_far = is.1 told ∙ ap (λ (l : List HistoryEntry). next l (save_at moment content)) so_far ∙ sym (next_of_kept saves (save_at moment content))
kept_more tells (Saved moment content) FaultOut es fs saves told is so_far = (is.1 told).0 ∙ so_far
kept_more tells (Saved moment content) Crashed es fs saves told is so_far = absurd is
kept_more tells (Crash pick) Crashed es fs saves told is so_far = is told ∙ so_far
kept_more tells (Crash pick) (Kept number) es fs saves told is so_far = absurd is
kept_more tells (Crash pick) (Merged number) es fs saves told is so_far = absurd is
kept_more tells (Crash pick) TooLarge es fs saves told is so_far = absurd is
kept_more tells (Crash pick) Spent es fs saves told is so_far = absurd is
kept_more tells (Crash pick) FaultIn es fs saves told is so_far = absurd is
kept_more tells (Crash pick) FaultOut es fs saves told is so_far = absurd is

-- ---- the last entry, as code reads it
ends_at_last : (es : List HistoryEntry) (save : Save) (d : HistoryEntry) → 0 < length es → ends_with es save ≡ ends_with (get_or es (length es - 1) d ∷ []) save
ends_at_last [] save d some = absurd (omega (arith, some))
ends_at_last (e ∷ []) save d some = refl
ends_at_last (e ∷ f ∷ es) save d some = ends_at_last (f ∷ es) save d (omega arith) ∙ ap (λ n. ends_with (get_or (e ∷ f ∷ es) n d ∷ []) save) (let z : suc (length (f ∷ es) - 1) ≡ length (e ∷ f ∷ es) - 1 = omega arith in z)

pub got_end : (es : List HistoryEntry) (e : HistoryEntry) (save : Save) → slice_get es (length es - 1) ≡ Some e → ends_with es save ≡ ends_with (e ∷ []) save
got_end es e save is = ends_at_last es save e (let w = slice_get_within es (length es - 1) e is in omega (arith, w)) ∙ ap (λ (x : HistoryEntry). ends_with (x ∷ []) save) (get_or_from_slice_get es (length es - 1) e e is)

pub got_number : (es : List HistoryEntry) (e : HistoryEntry) → slice_get es (length es - 1) ≡ Some e → last_number es ≡ e.number
got_number es e is = number_at_last es e (let w = slice_get_within es (length es - 1) e is in omega (arith, w)) ∙ ap (λ (x : HistoryEntry). x.number) (get_or_from_slice_get es (length es - 1) e e is)

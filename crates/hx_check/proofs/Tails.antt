-- Lines against a text, and what a verdict says.
use Rattle.std.specs.Prelude.{◌≡◌, ℕ, zero, suc, ◌+◌, ◌==◌, ◌<◌, ◌≤◌, nat_lt, Bool, true, false, ◌&&◌, List, [], ◌∷◌, ◌++◌, length, take, drop, get_or, reverse, bytes_eq, if◌then◌else◌, Option, Some, None, slice_get, refl}
use Rattle.std.proofs.Common.{ap, sym, ◌∙◌, subst, arith, cond, append_assoc, append-nil, length-append}
use Rattle.std.proofs.lemmas.Bool.Decides.{nat_tests}
use Rattle.std.proofs.lemmas.List.{reverse-append, take-append-drop}
use Rattle.std.proofs.lemmas.Option.{slice_get_past, slice_get_read}
use Rattle.std.proofs.lemmas.Slice.Eq.{bytes_eq-Decides}
use Rattle.hx_events.specs.declared.life.Entry.{Entry}
use Rattle.hx_rules.specs.Entries.{past}
use Rattle.hx_rules.specs.Legal.{Opening, is_row, is_legal}
use Rattle.hx_report.specs.Tails.{tail_text}
use Rattle.hx_script.specs.declared.trace.Trace.{Trace}
use Rattle.hx_script.specs.declared.trace.TraceLife.{TraceLife}
use Rattle.hx_check.specs.declared.verdict.Verdict.{Verdict}
use Rattle.hx_check.specs.declared.verdict.Verdict.TheVariants.{Legal}
use Rattle.hx_check.specs.Verdicts.{AreLegal, bad_entry, bad_in_life, bad_in_lives, bad_line, first_bad, goes_on, joined, plain_opening, verdict_by, verdict_on}

-- ---- lines
taken_length : {A : Type 0} (n : ℕ) (xs : List A) → length (take n xs) ≤ length xs
taken_length zero xs = omega arith
taken_length (suc n) [] = omega arith
taken_length (suc n) (x ∷ xs) = omega (arith, taken_length n xs)

front_is : (line text : List ℕ) → goes_on line text ≡ true → take (length line + 1) text ≡ line ++ 10 ∷ []
front_is line text h = (bytes_eq-Decides (take (length line + 1) text) (line ++ 10 ∷ [])).0 h

-- a line that the text goes on with ends within it
pub within : (line text : List ℕ) → goes_on line text ≡ true → length line + 1 ≤ length text
within line text h = omega (arith, taken_length (length line + 1) text, ap length (front_is line text h), length-append line (10 ∷ []))

drop_more : {A : Type 0} (n m : ℕ) (xs : List A) → drop n (drop m xs) ≡ drop (m + n) xs
drop_more n zero xs = let e : n ≡ 0 + n = omega arith in ap (λ k. drop k xs) e
drop_more zero (suc m) [] = let e : suc m + 0 ≡ suc (m + 0) = omega arith in sym (ap (λ k. drop k []) e)
drop_more (suc n) (suc m) [] = let e : suc m + suc n ≡ suc (m + suc n) = omega arith in sym (ap (λ k. drop k []) e)
drop_more n (suc m) (x ∷ xs) = let e : suc m + n ≡ suc (m + n) = omega arith in drop_more n m xs ∙ sym (ap (λ k. drop k (x ∷ xs)) e)

-- one line further
pub line_next : (number index at : ℕ) (line : List ℕ) (lines all : List (List ℕ)) (text : List ℕ) (rest : List (List ℕ)) → rest ≡ line ∷ lines → goes_on line (drop at text) ≡ true
    → bad_line (number + index) rest (drop at text) ≡ bad_line (number + (index + 1)) lines (drop (at + (length line + 1)) text)
line_next number index at line lines all text rest is h =
    let e : number + index + 1 ≡ number + (index + 1) = omega arith in
    ap (λ ls. bad_line (number + index) ls (drop at text)) is
    ∙ (ap (λ b. cond b (bad_line (number + index + 1) lines (drop (length line + 1) (drop at text))) (Some (number + index))) h
    ∙ (λ j. bad_line (e j) lines (drop_more (length line + 1) at text j)))

pub line_differs : (number : ℕ) (line : List ℕ) (lines rest : List (List ℕ)) (text : List ℕ) → rest ≡ line ∷ lines → goes_on line text ≡ false → bad_line number rest text ≡ Some number
line_differs number line lines rest text is h =
    ap (λ ls. bad_line number ls text) is ∙ ap (λ b. cond b (bad_line (number + 1) lines (drop (length line + 1) text)) (Some number)) h

-- behind the last line
pub text_left : (number at : ℕ) (lines : List (List ℕ)) (text : List ℕ) → lines ≡ [] → at < length text → bad_line number lines (drop at text) ≡ Some number
text_left number at lines text is lt = ap (λ ls. bad_line number ls (drop at text)) is ∙ step number at text lt
  where
    step : (number at : ℕ) (text : List ℕ) → at < length text → bad_line number [] (drop at text) ≡ Some number
    step number zero [] lt = absurd (omega (arith, lt))
    step number zero (b ∷ text) lt = refl
    step number (suc at) [] lt = absurd (omega (arith, lt))
    step number (suc at) (b ∷ text) lt = step number at text (omega (arith, lt))

pub no_text_left : (number at : ℕ) (lines : List (List ℕ)) (text : List ℕ) → lines ≡ [] → length text ≤ at → bad_line number lines (drop at text) ≡ None
no_text_left number at lines text is le = ap (λ ls. bad_line number ls (drop at text)) is ∙ step number at text le
  where
    step : (number at : ℕ) (text : List ℕ) → length text ≤ at → bad_line number [] (drop at text) ≡ None
    step number zero [] le = refl
    step number zero (b ∷ text) le = absurd (omega (arith, le))
    step number (suc at) [] le = refl
    step number (suc at) (b ∷ text) le = step number at text (omega (arith, le))

-- ---- the end of a line
and_true : (b : Bool) → (b && true) ≡ b
and_true true = refl
and_true false = refl

joined_tests : (a b d : Bool) → (a && (b && d)) ≡ ((a && b) && d)
joined_tests true b d = refl
joined_tests false b d = refl

pub goes_past : (line text : List ℕ) → slice_get text (length line) ≡ None → goes_on line text ≡ false
goes_past [] [] h = refl
goes_past [] (b ∷ text) h = absurd cc
goes_past (c ∷ line) [] h =
    let e : length (c ∷ line) + 1 ≡ suc (length line + 1) = omega arith in
    ap (λ n. bytes_eq (take n []) ((c ∷ line) ++ 10 ∷ [])) e
goes_past (c ∷ line) (b ∷ text) h =
    let e : length (c ∷ line) + 1 ≡ suc (length line + 1) = omega arith in
    ap (λ n. bytes_eq (take n (b ∷ text)) ((c ∷ line) ++ 10 ∷ [])) e ∙ (ap (λ t. b == c && t) (goes_past line text h) ∙ none (b == c))
  where
    none : (t : Bool) → (t && false) ≡ false
    none true = refl
    none false = refl

pub goes_with : (line text : List ℕ) (end : ℕ) → slice_get text (length line) ≡ Some end → goes_on line text ≡ (bytes_eq (take (length line) text) line && end == 10)
goes_with [] [] end h = absurd cc
goes_with [] (b ∷ text) end h = let e : b ≡ end = cc in and_true (b == 10) ∙ ap (λ n. n == 10) e
goes_with (c ∷ line) [] end h = absurd cc
goes_with (c ∷ line) (b ∷ text) end h =
    let e : length (c ∷ line) + 1 ≡ suc (length line + 1) = omega arith in
    ap (λ n. bytes_eq (take n (b ∷ text)) ((c ∷ line) ++ 10 ∷ [])) e
    ∙ (ap (λ t. b == c && t) (goes_with line text end h) ∙ joined_tests (b == c) (bytes_eq (take (length line) text) line) (end == 10))

pub ends_before : (line text : List ℕ) → false ≡ nat_lt (length line) (length text) → goes_on line text ≡ false
ends_before line text h = goes_past line text (slice_get_past text (length line) (grind (arith, nat_tests, h)))

pub ends_with : (line text : List ℕ) (end : ℕ) → true ≡ nat_lt (length line) (length text) → end ≡ get_or text (length line) end → goes_on line text ≡ (bytes_eq (take (length line) text) line && end == 10)
ends_with line text end h at = let lt : length line < length text = grind (arith, nat_tests, h) in goes_with line text end (slice_get_read text _ (length line) end refl lt at)

-- ---- entries
pub entry_next : (o : Opening) (before : List Entry) (line next : ℕ) (e : Entry) (es rest : List Entry) → rest ≡ e ∷ es → is_row o before e.event e.outcome ≡ true → next ≡ line + 1
    → bad_entry o (e ∷ before) next es ≡ bad_entry o before line rest
entry_next o before line next e es rest is row number =
    sym (ap (bad_entry o before line) is ∙ (ap (λ b. cond b (bad_entry o (e ∷ before) (line + 1) es) (Some line)) row ∙ ap (λ n. bad_entry o (e ∷ before) n es) (sym number)))

pub entry_bad : (o : Opening) (before : List Entry) (line : ℕ) (e : Entry) (es rest : List Entry) → rest ≡ e ∷ es → is_row o before e.event e.outcome ≡ false → bad_entry o before line rest ≡ Some line
entry_bad o before line e es rest is row = ap (bad_entry o before line) is ∙ ap (λ b. cond b (bad_entry o (e ∷ before) (line + 1) es) (Some line)) row

-- ---- lives
pub life_is_bad : (l : TraceLife) (lives rest : List TraceLife) (n : ℕ) → rest ≡ l ∷ lives → bad_in_life l ≡ Some n → bad_in_lives rest ≡ Some n
life_is_bad l lives rest n is bad = ap bad_in_lives is ∙ ap (λ b. first_bad b (bad_in_lives lives)) bad

pub life_is_good : (l : TraceLife) (lives rest : List TraceLife) → rest ≡ l ∷ lives → bad_in_life l ≡ None → bad_in_lives rest ≡ bad_in_lives lives
life_is_good l lives rest is good = ap bad_in_lives is ∙ ap (λ b. first_bad b (bad_in_lives lives)) good

pub verdict_is : (trace : Trace) (n : Option ℕ) → bad_in_lives trace.lives ≡ n → verdict_by n ≡ verdict_on trace
unfolding verdict_on
verdict_is trace n is = ap verdict_by (sym is)

-- ---- what a verdict says
picked : (b : Bool) (x : Option ℕ) (n : ℕ) → (if b then x else Some n) ≡ None → (b ≡ true) × (x ≡ None)
picked true x n h = (refl, h)
picked false x n h = absurd cc

both : (a b : Bool) → a ≡ true → b ≡ true → (a && b) ≡ true
both true b h i = i
both false b h i = absurd cc

legal_all : (o : Opening) (before : List Entry) (line : ℕ) (es : List Entry) → is_legal o before ≡ true → bad_entry o before line es ≡ None → is_legal o (reverse es ++ before) ≡ true
legal_all o before line [] legal none = legal
legal_all o before line (e ∷ es) legal none =
    let ok = picked (is_row o before e.event e.outcome) (bad_entry o (e ∷ before) (line + 1) es) line none in
    let here : is_legal o (e ∷ before) ≡ true = both (is_row o before e.event e.outcome) (is_legal o before) ok.0 legal in
    subst (λ (all : List Entry). is_legal o all ≡ true)
    (sym (ap (λ (front : List Entry). front ++ before) (reverse-append (e ∷ []) es) ∙ append_assoc (reverse es) (e ∷ []) before))
    (legal_all o (e ∷ before) (line + 1) es here ok.1)

legal_is : (o : Opening) (line : ℕ) (h : List Entry) → bad_entry o [] line h ≡ None → is_legal o (past h) ≡ true
legal_is o line h none = subst (λ (all : List Entry). is_legal o all ≡ true) (append-nil (reverse h)) (legal_all o [] line h refl none)

joined_is : (number : ℕ) (lines : List (List ℕ)) (text : List ℕ) → bad_line number lines text ≡ None → joined lines ≡ text
joined_is number [] [] none = refl
joined_is number [] (b ∷ text) none = absurd cc
joined_is number (line ∷ lines) text none =
    let ok = picked (goes_on line text) (bad_line (number + 1) lines (drop (length line + 1) text)) number none in
    ap (λ rest. line ++ 10 ∷ rest) (joined_is (number + 1) lines (drop (length line + 1) text) ok.1)
    ∙ (sym (append_assoc line (10 ∷ []) (drop (length line + 1) text))
    ∙ (ap (λ front. front ++ drop (length line + 1) text) (sym (front_is line text ok.0))
    ∙ take-append-drop (length line + 1) text))

none_both : (a b : Option ℕ) → first_bad a b ≡ None → (a ≡ None) × (b ≡ None)
none_both None b h = (refl, h)
none_both (Some n) b h = absurd cc

are_legal : (lives : List TraceLife) → bad_in_lives lives ≡ None → AreLegal lives
are_legal [] none = tt
are_legal (l ∷ lives) none =
    let here = none_both (bad_in_life l) (bad_in_lives lives) none in
    let parts = none_both (bad_entry (plain_opening l.life) [] l.first l.life.history) (bad_line l.tail_line l.tail (tail_text l.life)) here.0 in
    (legal_is (plain_opening l.life) l.first l.life.history parts.0, joined_is l.tail_line l.tail (tail_text l.life) parts.1, are_legal lives here.1)

legal_by : (n : Option ℕ) → verdict_by n ≡ Legal → n ≡ None
legal_by None h = refl
legal_by (Some n) h = absurd cc

pub verdict_means : (trace : Trace) (verdict : Verdict) → verdict ≡ verdict_on trace → verdict ≡ Legal → AreLegal trace.lives
unfolding verdict_on
verdict_means trace verdict is legal = are_legal trace.lives (legal_by (bad_in_lives trace.lives) (sym is ∙ legal))

-- Steps lead back and on, and are kept as marks and bytes.
use Rattle.std.proofs.Common.{◌≡◌, ℕ, ◌+◌, ◌-◌, ◌≤◌, List, ◌∷◌, ◌++◌, length, take, drop, slice_range, ap, sym, subst, ◌∙◌, arith, append_assoc, length-append, length-take, length-drop}
use Rattle.std.proofs.lemmas.List.{take-append-drop}
use Rattle.std.proofs.Math.Seq.{take-add, take-append_seam, drop-append_seam}
use Rattle.hx_rules.specs.Versions.{replaced}
use Rattle.hx_copy.specs.Steps.{Step, step, HasAt, IsChain}
use Rattle.hx_copy.specs.Copies.{place_of, walked}

parts : (a put b : List ℕ) (gone : List ℕ) → replaced (length a) (length put) gone (a ++ put ++ b) ≡ a ++ gone ++ b
parts a put b gone =
    ap (λ x. x ++ gone ++ drop (length a + length put) (a ++ put ++ b)) (ap (take (length a)) (append_assoc a put b) ∙ take-append_seam a (put ++ b))
    ∙ ap (λ x. a ++ gone ++ x) (ap (λ n. drop n (a ++ put ++ b)) (sym (length-append a put)) ∙ drop-append_seam (a ++ put) b)

-- What was put in is taken out again.
pub undone_step : (off : ℕ) (gone put content : List ℕ) → HasAt off gone content → replaced off (length put) gone (replaced off (length gone) put content) ≡ content
undone_step off gone put content has =
    let a = take off content in
    let b = drop (off + length gone) content in
    let len : length a ≡ off = length-take off content ∙ omega (arith, has.within) in
    ap (λ n. replaced n (length put) gone (a ++ put ++ b)) (sym len) ∙ (parts a put b gone ∙ sym has.is)

-- What was put in stands there, so the way back is the same step the other way round.
pub has_after : (off : ℕ) (gone put content : List ℕ) → HasAt off gone content → HasAt off put (replaced off (length gone) put content)
has_after off gone put content has =
    let a = take off content in
    let b = drop (off + length gone) content in
    let len : length a ≡ off = length-take off content ∙ omega (arith, has.within) in
    let first : take off (a ++ put ++ b) ≡ a = ap (λ n. take n (a ++ put ++ b)) (sym len) ∙ (ap (take (length a)) (append_assoc a put b) ∙ take-append_seam a (put ++ b)) in
    let rest : drop (off + length put) (a ++ put ++ b) ≡ b = ap (λ n. drop (n + length put) (a ++ put ++ b)) (sym len) ∙ (ap (λ n. drop n (a ++ put ++ b)) (sym (length-append a put)) ∙ drop-append_seam (a ++ put) b) in
    record {
      within = omega (arith, length-append (a ++ put) b, length-append a put, len);
      is = sym (ap (λ x. x ++ put ++ drop (off + length put) (a ++ put ++ b)) first ∙ ap (λ x. a ++ put ++ x) rest);
    }

-- the bytes that an edit replaces stand in the content
has_gone : (off del : ℕ) (content : List ℕ) → off + del ≤ length content → HasAt off (slice_range content off (off + del)) content
has_gone off del content fits =
    let gone = slice_range content off (off + del) in
    let len : length gone ≡ del = length-take (off + del - off) (drop off content) ∙ omega (arith, length-drop off content, fits) in
    record {
      within = omega (arith, len, fits);
      is = sym (ap (λ n. take off content ++ gone ++ drop (off + n) content) len ∙ whole off del content);
    }
  where
    whole : (i n : ℕ) (xs : List ℕ) → take i xs ++ slice_range xs i (i + n) ++ drop (i + n) xs ≡ xs
    whole i n xs =
        ap (λ k. take i xs ++ take k (drop i xs) ++ drop (i + n) xs) (omega arith) ∙ (ap (λ h. h ++ drop (i + n) xs) (sym (take-add i n xs)) ∙ take-append-drop (i + n) xs)

length_gone : (off del : ℕ) (content : List ℕ) → off + del ≤ length content → length (slice_range content off (off + del)) ≡ del
length_gone off del content fits = length-take (off + del - off) (drop off content) ∙ omega (arith, length-drop off content, fits)

-- after an edit its own step leads back to the content before it, and the others as they did
pub edited_chain : (id off del : ℕ) (text content : List ℕ) (steps : List Step) → off + del ≤ length content → IsChain content steps
    → IsChain (replaced off del text content) (step id off text (slice_range content off (off + del)) ∷ steps)
edited_chain id off del text content steps fits chain =
    let gone = slice_range content off (off + del) in
    let has = has_gone off del content fits in
    let same : replaced off (length gone) text content ≡ replaced off del text content = ap (λ n. replaced off n text content) (length_gone off del content fits) in
    let there : HasAt off text (replaced off del text content) = subst (λ (c : List ℕ). HasAt off text c) same (has_after off gone text content has) in
    let back : replaced off (length text) gone (replaced off del text content) ≡ content = ap (replaced off (length text) gone) (sym same) ∙ undone_step off gone text content has in
    (there, subst (λ (c : List ℕ). IsChain c steps) (sym back) chain)

pub edited_places : (id off del : ℕ) (text content : List ℕ) (steps : List Step) → off + del ≤ length content
    → walked (replaced off del text content) (step id off text (slice_range content off (off + del)) ∷ steps) ≡ place_of id content ∷ walked content steps
edited_places id off del text content steps fits =
    let gone = slice_range content off (off + del) in
    let has = has_gone off del content fits in
    let back : replaced off (length text) gone (replaced off del text content) ≡ content =
    ap (λ n. replaced off (length text) gone (replaced off n text content)) (sym (length_gone off del content fits)) ∙ undone_step off gone text content has in
    ap (λ c. place_of id c ∷ walked c steps) back

-- Bytes that are cut at the first byte of a value.
use Rattle.std.proofs.Common.{◌≡◌, ◌<◌, ℕ, ◌+◌, ◌-◌, Bool, true, false, ◌≤◌, nat_lt, List, [], ◌∷◌, ◌++◌, length, take, drop, get_or, Some, None, if◌then◌else◌, refl, sym, ◌∙◌, ap, arith, append_assoc, zero, suc}
use Rattle.std.specs.Borrow.{Bor}
use Rattle.std.specs.List.{slice_split, position_or_len, before_first, after_first, onto_first as onto_first_part}
use Rattle.std.proofs.lemmas.List.Sums.{position_or_len_is}
use Rattle.std.proofs.lemmas.List.{map-append, length-append}
use Rattle.std.proofs.lemmas.Bool.Decides.{nat_tests}
use Rattle.memchr.specs.Find.{IsFirstByte, is_byte as passes}
use Rattle.hx_events.specs.Fields.{fields_of, onto_first}
use Rattle.hx_script.specs.Lines.{is_byte, cut_at, texts, first_field}
use Rattle.hx_script.specs.LineLaws.{split_some, split_none}

untrue : (b : Bool) → (b ≡ true → ⊥) → b ≡ false
untrue true is = absurd (is refl)
untrue false is = refl

-- what the search for a byte says of its place
pub first_place : (wanted : ℕ) (bytes : List ℕ) (end : ℕ) → IsFirstByte (passes wanted) bytes (Some end) → (position_or_len (is_byte wanted) bytes ≡ end) × (end < length bytes)
first_place wanted bytes end first =
    (position_or_len_is (is_byte wanted) bytes end 0 (let high = first.0.high in omega arith) (λ k below. untrue (is_byte wanted (get_or bytes k 0)) (first.0.before k (omega arith) below)) (λ within. first.1), first.0.high)

pub no_place : (wanted : ℕ) (bytes : List ℕ) → IsFirstByte (passes wanted) bytes None → position_or_len (is_byte wanted) bytes ≡ length bytes
no_place wanted bytes first = position_or_len_is (is_byte wanted) bytes (length bytes) 0 (omega arith) (λ k below. untrue (is_byte wanted (get_or bytes k 0)) (first k (omega arith) below)) (λ past. absurd (omega (arith, past)))

by_test : {A : Type 0} (b : Bool) (x : A) → b ≡ true → (if b then Some x else None) ≡ Some x
by_test b x holds = ap (λ t. if t then Some x else None) holds

by_no_test : {A : Type 0} (b : Bool) (x : A) → b ≡ false → (if b then Some x else None) ≡ None
by_no_test b x never = ap (λ t. if t then Some x else None) never

lt_true : (a b : ℕ) → a < b → nat_lt a b ≡ true
lt_true a b lt = grind (arith, nat_tests)

lt_false : (a : ℕ) → nat_lt a a ≡ false
lt_false a = grind (arith, nat_tests)

pub cut_found : (wanted : ℕ) (bytes front behind : List ℕ) (end : ℕ) → IsFirstByte (passes wanted) bytes (Some end) → front ≡ take end bytes → behind ≡ drop (end + 1) bytes → cut_at wanted bytes ≡ Some (front, behind)
cut_found wanted bytes front behind end first is_front is_behind =
    let place = first_place wanted bytes end first in
    let p = position_or_len (is_byte wanted) bytes in
    by_test (nat_lt p (length bytes)) (before_first (is_byte wanted) bytes, after_first (is_byte wanted) bytes) (lt_true p (length bytes) (omega (arith, place.0, place.1)))
    ∙ ap (λ (l : List ℕ). Some (l, after_first (is_byte wanted) bytes)) (ap (λ n. take n bytes) place.0 ∙ sym is_front)
    ∙ ap (λ (l : List ℕ). Some (front, l)) (ap (λ n. drop n bytes) (omega (arith, place.0)) ∙ sym is_behind)

pub cut_none : (wanted : ℕ) (bytes : List ℕ) → IsFirstByte (passes wanted) bytes None → cut_at wanted bytes ≡ None
cut_none wanted bytes first =
    by_no_test (nat_lt (position_or_len (is_byte wanted) bytes) (length bytes)) (before_first (is_byte wanted) bytes, after_first (is_byte wanted) bytes)
    (ap (λ n. nat_lt n (length bytes)) (no_place wanted bytes first) ∙ lt_false (length bytes))

-- fields are the parts round blanks
pub fields_are : (line : List ℕ) → fields_of line ≡ slice_split (is_byte 32) line
fields_are [] = refl
fields_are (b ∷ bs) = ap (λ (fs : List (List ℕ)). if is_byte 32 b then [] ∷ fs else onto_first b fs) (fields_are bs) ∙ same (is_byte 32 b) (slice_split (is_byte 32) bs)
  where
    onto_same : (fs : List (List ℕ)) → onto_first b fs ≡ onto_first_part b fs
    onto_same [] = refl
    onto_same (f ∷ fs) = refl

    same : (t : Bool) (fs : List (List ℕ)) → (if t then [] ∷ fs else onto_first b fs) ≡ (if t then [] ∷ fs else onto_first_part b fs)
    same true fs = refl
    same false fs = onto_same fs

pub first_is : (line front behind : List ℕ) → cut_at 32 line ≡ Some (front, behind) → front ≡ first_field (fields_of line)
first_is line front behind cut = sym (ap first_field (fields_are line ∙ split_some 32 line front behind cut))

pub whole_is : (line : List ℕ) → cut_at 32 line ≡ None → line ≡ first_field (fields_of line)
whole_is line cut = sym (ap first_field (fields_are line ∙ split_none 32 line cut))

-- One field more: what is left, behind those that stand already.
texts_push : (fields : List (Bor (List ℕ))) (field : Bor (List ℕ)) → texts (fields ++ field ∷ []) ≡ texts fields ++ field.now ∷ []
texts_push fields field = map-append (λ (f : Bor (List ℕ)). f.now) fields (field ∷ [])

pub field_more : (most : ℕ) (fields new : List (Bor (List ℕ))) (field : Bor (List ℕ)) (rest behind : List ℕ) (whole : List (List ℕ)) → length fields < most → cut_at 32 rest ≡ Some (field.now, behind) → new ≡ fields ++ field ∷ []
    → texts fields ++ take (most - length fields) (fields_of rest) ≡ whole → (length new ≤ most) × (texts new ++ take (most - length new) (fields_of behind) ≡ whole)
field_more most fields new field rest behind whole room cut grown so_far =
    let count : length new ≡ length fields + 1 = ap length grown ∙ length-append fields (field ∷ []) in
    let left = most - (length fields + 1) in
    let fewer : most - length new ≡ left = omega (arith, count) in
    let before : suc left ≡ most - length fields = omega (arith, room) in
    let parts : fields_of rest ≡ field.now ∷ fields_of behind = fields_are rest ∙ split_some 32 rest field.now behind cut ∙ ap (λ (fs : List (List ℕ)). field.now ∷ fs) (sym (fields_are behind)) in (
      omega (arith, count, room),
      ap (λ (fs : List (Bor (List ℕ))). texts fs ++ take (most - length new) (fields_of behind)) grown
          ∙ ap (λ (fs : List (List ℕ)). fs ++ take (most - length new) (fields_of behind)) (texts_push fields field)
          ∙ append_assoc (texts fields) (field.now ∷ []) (take (most - length new) (fields_of behind))
          ∙ ap (λ n. texts fields ++ field.now ∷ take n (fields_of behind)) fewer
          ∙ ap (λ (fs : List (List ℕ)). texts fields ++ fs) (sym (ap (take (suc left)) parts))
          ∙ ap (λ n. texts fields ++ take n (fields_of rest)) before ∙ so_far,
    )

pub last_field : (most : ℕ) (fields new : List (Bor (List ℕ))) (field : Bor (List ℕ)) (whole : List (List ℕ)) → length fields < most → cut_at 32 field.now ≡ None → new ≡ fields ++ field ∷ []
    → texts fields ++ take (most - length fields) (fields_of field.now) ≡ whole → texts new ≡ whole
last_field most fields new field whole room cut grown so_far =
    let left = most - (length fields + 1) in
    let before : suc left ≡ most - length fields = omega (arith, room) in
    let part : fields_of field.now ≡ field.now ∷ [] = fields_are field.now ∙ split_none 32 field.now cut in
    ap texts grown ∙ texts_push fields field
    ∙ ap (λ (fs : List (List ℕ)). texts fields ++ fs) (short left ∙ sym (ap (take (suc left)) part))
    ∙ ap (λ n. texts fields ++ take n (fields_of field.now)) before ∙ so_far
  where
    short : (n : ℕ) → field.now ∷ [] ≡ take (suc n) (field.now ∷ [])
    short zero = refl
    short (suc n) = refl

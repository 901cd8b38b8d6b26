-- Laws of bytes that are read line by line, and of lines that are read by their first fields. Each reader cites them.
use Rattle.std.proofs.Common.{◌≡◌, ◌≤◌, ◌<◌, ℕ, ◌+◌, Bool, true, false, not, nat_lt, if◌then◌else◌, List, [], ◌∷◌, length, take, Some, None, Result, Ok, Err, subst, refl, sym, ◌∙◌, ap, arith}
use Rattle.std.specs.Borrow.{Bor}
use Rattle.std.specs.List.{slice_split, position_or_len, before_first, after_first, onto_first as onto_first_part}
use Rattle.std.proofs.lemmas.Bool.Decides.{nat_tests}
use Rattle.std.proofs.lemmas.List.Splits.{length-slice_split, slice_split_first, slice_split-cons_no}
use Rattle.std.proofs.lemmas.List.Sums.{prefix_len-le-length}
use Rattle.hx_events.specs.Fields.{fields_of}
use Rattle.hx_script.specs.declared.why.Why.{Why}
use Rattle.hx_script.specs.declared.why.Why.TheVariants.{NoEnd}
use Rattle.hx_script.specs.declared.why.LineError.{LineError}
use Rattle.hx_script.specs.declared.why.LineError.TheVariants.{Bad, NoMemory}
use Rattle.hx_script.specs.declared.why.ScriptError.{ScriptError}
use Rattle.hx_script.specs.declared.why.ScriptError.TheVariants.{Bad as BadAt}
use Rattle.hx_script.specs.Readings.{Reading, Refused, Takes, error_at}
use Rattle.hx_script.specs.Lines.{is_byte, cut_at, texts, parts_of, lines_from, lines_over}

-- what a cut says of the parts round all such bytes
no_test : {A : Type 0} (b : Bool) (x : A) → (if b then Some x else None) ≡ None → b ≡ false
no_test true x none = absurd cc
no_test false x none = refl

not_below : (n m : ℕ) → n ≤ m → nat_lt n m ≡ false → n ≡ m
not_below n m le past = grind (arith, nat_tests)

split_whole : (wanted : ℕ) (bytes : List ℕ) → position_or_len (is_byte wanted) bytes ≡ length bytes → slice_split (is_byte wanted) bytes ≡ bytes ∷ []
split_whole wanted [] none = refl
split_whole wanted (b ∷ rest) none = by_byte (is_byte wanted b) refl none (split_whole wanted rest)
  where
    by_byte : (t : Bool) → is_byte wanted b ≡ t → position_or_len (is_byte wanted) (b ∷ rest) ≡ length (b ∷ rest) → (position_or_len (is_byte wanted) rest ≡ length rest → slice_split (is_byte wanted) rest ≡ rest ∷ [])
        → slice_split (is_byte wanted) (b ∷ rest) ≡ (b ∷ rest) ∷ []
    by_byte true ends none others = absurd (omega (arith, rw ends at none))
    by_byte false goes_on none others = slice_split-cons_no (is_byte wanted) b rest goes_on ∙ ap (onto_first_part b) (others (omega (arith, rw goes_on at none)))

pub split_none : (wanted : ℕ) (bytes : List ℕ) → cut_at wanted bytes ≡ None → slice_split (is_byte wanted) bytes ≡ bytes ∷ []
split_none wanted bytes none =
    split_whole wanted bytes (not_below (position_or_len (is_byte wanted) bytes) (length bytes) (prefix_len-le-length (λ x. not (is_byte wanted x)) bytes) (no_test (nat_lt (position_or_len (is_byte wanted) bytes) (length bytes)) (before_first (is_byte wanted) bytes, after_first (is_byte wanted) bytes) none))

some_parts : (b : Bool) (x y : List ℕ × List ℕ) → (if b then Some x else None) ≡ Some y → (b ≡ true) × (x ≡ y)
some_parts true x y e = (refl, cc)
some_parts false x y e = absurd cc

lt_from : (a b : ℕ) → nat_lt a b ≡ true → a < b
lt_from a b t = grind (arith, nat_tests)

pub split_some : (wanted : ℕ) (bytes front behind : List ℕ) → cut_at wanted bytes ≡ Some (front, behind) → slice_split (is_byte wanted) bytes ≡ front ∷ slice_split (is_byte wanted) behind
split_some wanted bytes front behind cut =
    let parts = some_parts (nat_lt (position_or_len (is_byte wanted) bytes) (length bytes)) (before_first (is_byte wanted) bytes, after_first (is_byte wanted) bytes) (front, behind) cut in
    slice_split_first (is_byte wanted) bytes 0 (lt_from _ _ parts.0)
    ∙ ap (λ (p : List ℕ × List ℕ). p.0 ∷ slice_split (is_byte wanted) p.1) parts.1

module _ {S A : Type 0} (line_in : ℕ → S → List ℕ → Result S Why) (end_at : ℕ → S → Reading A) where
  -- a first part before others
  abbrev after_line : ℕ → Result S Why → List (List ℕ) → Reading A
  after_line n (Ok after) parts = lines_over line_in end_at (n + 1) after parts
  after_line n (Err why) parts = Refused n why

  over_cons : (n : ℕ) (s : S) (line : List ℕ) (parts : List (List ℕ)) → 0 < length parts → lines_over line_in end_at n s (line ∷ parts) ≡ after_line n (line_in n s line) parts
  over_cons n s line [] some = absurd (omega arith)
  over_cons n s [] (next ∷ parts) some = by_result (line_in n s [])
    where
      by_result : (r : Result S Why) → elim r [ Ok after ↦ lines_from line_in end_at (n + 1) after next parts | Err why ↦ Refused n why ] ≡ after_line n r (next ∷ parts)
      by_result (Ok after) = refl
      by_result (Err why) = refl
  over_cons n s (b ∷ bs) (next ∷ parts) some = by_result (line_in n s (b ∷ bs))
    where
      by_result : (r : Result S Why) → elim r [ Ok after ↦ lines_from line_in end_at (n + 1) after next parts | Err why ↦ Refused n why ] ≡ after_line n r (next ∷ parts)
      by_result (Ok after) = refl
      by_result (Err why) = refl

  over_line : (n : ℕ) (s : S) (rest line behind : List ℕ) → cut_at 10 rest ≡ Some (line, behind) → lines_over line_in end_at n s (parts_of rest) ≡ after_line n (line_in n s line) (parts_of behind)
  over_line n s rest line behind cut =
      ap (lines_over line_in end_at n s) (split_some 10 rest line behind cut)
      ∙ over_cons n s line (parts_of behind) (omega (arith, length-slice_split (is_byte 10) behind))

  -- a good line
  pub line_taken : (n : ℕ) (s after : S) (rest line behind : List ℕ) → cut_at 10 rest ≡ Some (line, behind) → line_in n s line ≡ Ok after
      → lines_over line_in end_at (n + 1) after (parts_of behind) ≡ lines_over line_in end_at n s (parts_of rest)
  line_taken n s after rest line behind cut is = sym (over_line n s rest line behind cut ∙ ap (λ r. after_line n r (parts_of behind)) is)

  -- a bad one
  pub line_refused : (n : ℕ) (s : S) (why : Why) (rest line behind : List ℕ) → cut_at 10 rest ≡ Some (line, behind) → line_in n s line ≡ Err why → lines_over line_in end_at n s (parts_of rest) ≡ Refused n why
  line_refused n s why rest line behind cut is = over_line n s rest line behind cut ∙ ap (λ r. after_line n r (parts_of behind)) is

  -- a last one without its end
  unended_part : (n : ℕ) (s : S) (part : List ℕ) → 0 < length part → lines_over line_in end_at n s (part ∷ []) ≡ Refused n NoEnd
  unended_part n s [] some = absurd (omega arith)
  unended_part n s (b ∷ bs) some = refl

  pub line_unended : (n : ℕ) (s : S) (rest : List ℕ) → cut_at 10 rest ≡ None → 0 < length rest → lines_over line_in end_at n s (parts_of rest) ≡ Refused n NoEnd
  line_unended n s rest cut some = ap (lines_over line_in end_at n s) (split_none 10 rest cut) ∙ unended_part n s rest some

  -- no line is left
  pub lines_ended : (n : ℕ) (s : S) (rest : List ℕ) → length rest ≡ 0 → lines_over line_in end_at n s (parts_of rest) ≡ end_at n s
  lines_ended n s [] none = refl
  lines_ended n s (b ∷ bs) none = absurd (omega (arith, none))

abbrev pub failed : {T : Type 0} → ScriptError → Result T ScriptError
failed e = Err e

-- the error that is told is that of the line
pub told : {T A : Type 0} (n line : ℕ) (w why : Why) (r : Reading A) → failed {T = T} (BadAt n w) ≡ failed (BadAt line why) → r ≡ Refused n w → r ≡ Refused line why
told n line w why r same is = let lines : n ≡ line = cc in let whys : w ≡ why = cc in is ∙ ap (λ k. Refused k w) lines ∙ ap (λ v. Refused line v) whys

told_by : {T S A : Type 0} (e : LineError) (n line : ℕ) (why : Why) (new : S) (read : Result S Why) (r : Reading A) → failed {T = T} (error_at n e) ≡ failed (BadAt line why) → Takes (Err e) new read → ((w : Why) → read ≡ Err w → r ≡ Refused n w) → r ≡ Refused line why
told_by (Bad w) n line why new read r same took refused = told n line w why r same (refused w took)
told_by NoMemory n line why new read r same took refused = absurd cc

pub told_at : {T S A : Type 0} (result : Result Unit LineError) (e : LineError) (told_error : ScriptError) (n line : ℕ) (why : Why) (new : S) (read : Result S Why) (r : Reading A) → result ≡ Err e → told_error ≡ error_at n e → failed {T = T} told_error ≡ failed (BadAt line why)
    → Takes result new read → ((w : Why) → read ≡ Err w → r ≡ Refused n w) → r ≡ Refused line why
told_at result e told_error n line why new read r is at same took refused =
    told_by e n line why new read r (sym (ap failed at) ∙ same) (subst (λ x. Takes x new read) is took) refused

pub taken : {S : Type 0} (result : Result Unit LineError) (done : Unit) (new : S) (read : Result S Why) → result ≡ Ok done → Takes result new read → read ≡ Ok new
taken result done new read is took = subst (λ x. Takes x new read) is took

-- Where so many fields say what all of them do, the first fields of a line say what the line does.
pub fields_say : {R : Type 0} (say : List (List ℕ) → R) (most : ℕ) (line : List ℕ) (fields items : List (Bor (List ℕ))) → ((all : List (List ℕ)) → say (take most all) ≡ say all) → fields ≡ items → texts items ≡ take most (fields_of line)
    → say (texts fields) ≡ say (fields_of line)
fields_say say most line fields items enough same parted =
    ap (λ (fs : List (Bor (List ℕ))). say (texts fs)) same
    ∙ ap say parted ∙ enough (fields_of line)

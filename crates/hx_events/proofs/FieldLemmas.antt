-- The fields of a line are read back, since none of them has a blank.
use Rattle.std.proofs.Common.{◌≡◌, ℕ, zero, suc, ◌+◌, ◌==◌, ◌/◌, ◌%◌, nat_lt, not, Bool, true, false, cond, ◌&&◌, List, [], ◌∷◌, ◌++◌, codes, Option, Some, None, refl, ap, ◌∙◌, arith}
use Rattle.std.specs.Prelude.{decimal, if◌then◌else◌}
use Rattle.std.specs.Fmt.{digits, digits_onto, digit_glyph}
use Rattle.std.proofs.lemmas.Bool.Decides.{nat_tests}
use Rattle.std.proofs.lemmas.List.Concat.{flat_map-cons}
use Rattle.hx_base.specs.Escapes.{escaped, escape_of, is_plain}
use Rattle.hx_etag.specs.declared.stat.Stat.{Stat}
use Rattle.hx_events.specs.declared.event.Actor.{Actor}
use Rattle.hx_events.specs.declared.event.Actor.TheVariants.{Window, Writer, Saver, Closer, Watcher}
use Rattle.hx_events.specs.declared.event.Command.{Command}
use Rattle.hx_events.specs.declared.event.Command.TheVariants.{Open, Create, Edit, Undo, Redo, Save, Revert, Close, Outside}
use Rattle.hx_events.specs.declared.event.Event.{Event}
use Rattle.hx_events.specs.declared.event.Stage.{Stage}
use Rattle.hx_events.specs.declared.event.Stage.TheVariants.{Prepare, Fade, Drop}
use Rattle.hx_events.specs.declared.outcome.Outcome.{Outcome}
use Rattle.hx_events.specs.declared.outcome.Outcome.TheVariants.{Opened, Created, Edited, Undone, Redone, Started, Reverted, StageOk, StageFault, Checked, Modified, Saved, WriteFault, Unguarded, Vetoed}
use Rattle.hx_events.specs.declared.event.Event.TheVariants.{Act, Vault, Flush, Quit}
use Rattle.hx_events.specs.Texts.{spaced, name_of, actor_text, text_field, word_if, command_fields, event_fields, line_text, stat_fields, found_fields, stage_fields, stage_word, outcome_word, outcome_fields, outcome_line}
use Rattle.hx_events.specs.Fields.{is_word, are_words, onto_first, fields_of}

and_left : (a b : Bool) → (a && b) ≡ true → a ≡ true
and_left true b h = refl
and_left false b h = h

and_right : (a b : Bool) → (a && b) ≡ true → b ≡ true
and_right true b h = h
and_right false b h = absurd cc

both : (a b : Bool) → a ≡ true → b ≡ true → (a && b) ≡ true
both true b h i = i
both false b h i = h

-- a word in front of a text whose first field is empty
word_in_front : (word rest : List ℕ) (fields : List (List ℕ)) → is_word word ≡ true → fields_of rest ≡ [] ∷ fields → fields_of (word ++ rest) ≡ word ∷ fields
word_in_front [] rest fields is parted = parted
word_in_front (b ∷ bs) rest fields is parted = go (b == 32) is (word_in_front bs rest fields (and_right (not (b == 32)) (is_word bs) is) parted)
  where
    go : (blank : Bool) → (not blank && is_word bs) ≡ true → fields_of (bs ++ rest) ≡ bs ∷ fields → cond blank ([] ∷ fields_of (bs ++ rest)) (onto_first b (fields_of (bs ++ rest))) ≡ (b ∷ bs) ∷ fields
    go true is ih = absurd cc
    go false is ih = ap (onto_first b) ih

spaced_fields : (fields : List (List ℕ)) → are_words fields ≡ true → fields_of (spaced fields) ≡ [] ∷ fields
spaced_fields [] are = refl
spaced_fields (f ∷ fs) are = ap (λ xs. [] ∷ xs) (word_in_front f (spaced fs) fs (and_left (is_word f) (are_words fs) are) (spaced_fields fs (and_right (is_word f) (are_words fs) are)))

-- fields without blanks are read back
pub fields_read_back : (word : List ℕ) (fields : List (List ℕ)) → is_word word ≡ true → are_words fields ≡ true → fields_of (word ++ spaced fields) ≡ word ∷ fields
fields_read_back word fields is are = word_in_front word (spaced fields) fields is (spaced_fields fields are)

word_append : (xs ys : List ℕ) → is_word xs ≡ true → is_word ys ≡ true → is_word (xs ++ ys) ≡ true
word_append [] ys is are = are
word_append (x ∷ xs) ys is are = both (not (x == 32)) (is_word (xs ++ ys)) (and_left (not (x == 32)) (is_word xs) is) (word_append xs ys (and_right (not (x == 32)) (is_word xs) is) are)

glyph_is_no_blank : (upper : Bool) (d : ℕ) → not (digit_glyph upper d == 32) ≡ true
glyph_is_no_blank upper d = go (nat_lt d 10) upper
  where
    go : (small u : Bool) → not ((if small then 48 + d else (if u then 55 + d else 87 + d)) == 32) ≡ true
    go true u = grind (arith, nat_tests)
    go false true = grind (arith, nat_tests)
    go false false = grind (arith, nat_tests)

digits_onto_word : (k base n : ℕ) (acc : List ℕ) → is_word acc ≡ true → is_word (digits_onto k base false n acc) ≡ true
digits_onto_word zero base n acc is = is
digits_onto_word (suc k) base n acc is =
    let longer : is_word (digit_glyph false (n % base) ∷ acc) ≡ true = both (not (digit_glyph false (n % base) == 32)) (is_word acc) (glyph_is_no_blank false (n % base)) is in
    go (n / base == 0) longer (digits_onto_word k base (n / base) (digit_glyph false (n % base) ∷ acc) longer)
  where
    go : (last : Bool) → is_word (digit_glyph false (n % base) ∷ acc) ≡ true → is_word (digits_onto k base false (n / base) (digit_glyph false (n % base) ∷ acc)) ≡ true
        → is_word (cond last (digit_glyph false (n % base) ∷ acc) (digits_onto k base false (n / base) (digit_glyph false (n % base) ∷ acc))) ≡ true
    go true here more = here
    go false here more = more

decimal_word : (n : ℕ) → is_word (decimal n) ≡ true
unfolding digits
decimal_word n = digits_onto_word 64 10 n [] refl

escape_word : (b : ℕ) → is_word (escape_of b) ≡ true
escape_word b = go (is_plain b) (λ plain. grind (arith, nat_tests))
  where
    go : (plain : Bool) → (plain ≡ true → not (b == 32) ≡ true) → is_word (if plain then b ∷ [] else 37 ∷ digit_glyph true (b / 16) ∷ digit_glyph true (b % 16) ∷ []) ≡ true
    go true no_blank = both (not (b == 32)) true (no_blank refl) refl
    go false no_blank = both (not (digit_glyph true (b / 16) == 32)) (is_word (digit_glyph true (b % 16) ∷ [])) (glyph_is_no_blank true (b / 16)) (both (not (digit_glyph true (b % 16) == 32)) true (glyph_is_no_blank true (b % 16)) refl)

escaped_word : (bytes : List ℕ) → is_word (escaped bytes) ≡ true
escaped_word [] = refl
escaped_word (b ∷ bs) = ap is_word (flat_map-cons escape_of b bs) ∙ word_append (escape_of b) (escaped bs) (escape_word b) (escaped_word bs)

name_word : (names : List (List ℕ)) (c : ℕ) → are_words names ≡ true → is_word (name_of names c) ≡ true
name_word [] c are = refl
name_word (x ∷ xs) zero are = and_left (is_word x) (are_words xs) are
name_word (x ∷ xs) (suc c) are = name_word xs c (and_right (is_word x) (are_words xs) are)

pub actor_word : (actor : Actor) → is_word (actor_text actor) ≡ true
actor_word (Window k) = decimal_word k
actor_word (Writer k) = decimal_word k
actor_word (Saver k) = decimal_word k
actor_word Closer = refl
actor_word Watcher = refl

one_word : (names : List (List ℕ)) (c : ℕ) → are_words names ≡ true → are_words (name_of names c ∷ []) ≡ true
one_word names c are = both (is_word (name_of names c)) true (name_word names c are) refl

save_words : (force over : Bool) → are_words (word_if force (codes "force") ++ word_if over (codes "over")) ≡ true
save_words false false = refl
save_words false true = refl
save_words true false = refl
save_words true true = refl

command_words : (names : List (List ℕ)) (command : Command) → are_words names ≡ true → are_words (command_fields names command) ≡ true
command_words names (Open c) are = one_word names c are
command_words names (Create c) are = one_word names c are
command_words names (Edit c off del text) are =
    both (is_word (name_of names c)) (are_words (decimal off ∷ decimal del ∷ text_field text ∷ [])) (name_word names c are)
    (both (is_word (decimal off)) (are_words (decimal del ∷ text_field text ∷ [])) (decimal_word off)
    (both (is_word (decimal del)) (are_words (text_field text ∷ [])) (decimal_word del)
    (both (is_word (escaped text)) true (escaped_word text) refl)))
command_words names (Undo c) are = one_word names c are
command_words names (Redo c) are = one_word names c are
command_words names (Save c force over) are = both (is_word (name_of names c)) (are_words (word_if force (codes "force") ++ word_if over (codes "over"))) (name_word names c are) (save_words force over)
command_words names (Revert c) are = one_word names c are
command_words names (Close c) are = one_word names c are
command_words names (Outside c mtime text) are =
    both (is_word (name_of names c)) (are_words (decimal mtime ∷ text_field text ∷ [])) (name_word names c are)
    (both (is_word (decimal mtime)) (are_words (text_field text ∷ [])) (decimal_word mtime)
    (both (is_word (escaped text)) true (escaped_word text) refl))

pub event_words : (names : List (List ℕ)) (event : Event) → are_words names ≡ true → are_words (event_fields names event) ≡ true
event_words names (Act command) are = command_words names command are
event_words names (Vault c) are = one_word names c are
event_words names (Flush c) are = one_word names c are
event_words names Quit are = refl

-- a line's fields are its actor and the fields of its event
pub line_read_back : (names : List (List ℕ)) (actor : Actor) (event : Event) (text : List ℕ) → text ≡ line_text names actor event → are_words names ≡ true → fields_of text ≡ actor_text actor ∷ event_fields names event
line_read_back names actor event text is are = ap fields_of is ∙ fields_read_back (actor_text actor) (event_fields names event) (actor_word actor) (event_words names event are)

-- what stands behind an outcome's word has no blank
stat_words : (s : Stat) → are_words (stat_fields s) ≡ true
stat_words s = both (is_word (decimal s.mtime)) (are_words (decimal s.size ∷ [])) (decimal_word s.mtime) (both (is_word (decimal s.size)) true (decimal_word s.size) refl)

number_words : (n : ℕ) → are_words (decimal n ∷ []) ≡ true
number_words n = both (is_word (decimal n)) true (decimal_word n) refl

found_words : (x : Option Stat) → are_words (found_fields x) ≡ true
found_words None = refl
found_words (Some s) = stat_words s

stage_words : (stage : Stage) (v : ℕ) (end : List ℕ) → is_word end ≡ true → are_words (stage_fields stage v end) ≡ true
stage_words Fade v end is = both (is_word end) true is refl
stage_words Drop v end is = both (is_word end) true is refl
stage_words _ v end is = both (is_word (decimal v)) (are_words (end ∷ [])) (decimal_word v) (both (is_word end) true is refl)

stage_is_word : (stage : Stage) → is_word (stage_word stage) ≡ true
stage_is_word Prepare = refl
stage_is_word _ = refl

outcome_is_word : (outcome : Outcome) → is_word (outcome_word outcome) ≡ true
outcome_is_word (StageOk stage v) = stage_is_word stage
outcome_is_word (StageFault stage v) = stage_is_word stage
outcome_is_word _ = refl

outcome_words : (names : List (List ℕ)) (outcome : Outcome) → are_words names ≡ true → are_words (outcome_fields names outcome) ≡ true
outcome_words names (Opened s) are = stat_words s
outcome_words names (Created v) are = number_words v
outcome_words names (Edited v) are = number_words v
outcome_words names (Undone v) are = number_words v
outcome_words names (Redone v) are = number_words v
outcome_words names (Started v) are = number_words v
outcome_words names (Reverted s) are = stat_words s
outcome_words names (StageOk stage v) are = stage_words stage v (codes "ok") refl
outcome_words names (StageFault stage v) are = stage_words stage v (codes "fault") refl
outcome_words names (Checked x) are = found_words x
outcome_words names (Modified s) are = stat_words s
outcome_words names (Saved v x) are = both (is_word (decimal v)) (are_words (found_fields x)) (decimal_word v) (found_words x)
outcome_words names (WriteFault v) are = both (is_word (decimal v)) true (decimal_word v) refl
outcome_words names (Unguarded v) are = number_words v
outcome_words names (Vetoed c) are = one_word names c are
outcome_words names _ are = refl

-- an outcome's text is its word and its fields
pub outcome_read_back : (names : List (List ℕ)) (outcome : Outcome) (text : List ℕ) → text ≡ outcome_line names outcome → are_words names ≡ true → fields_of text ≡ outcome_word outcome ∷ outcome_fields names outcome
outcome_read_back names outcome text is are = ap fields_of is ∙ fields_read_back (outcome_word outcome) (outcome_fields names outcome) (outcome_is_word outcome) (outcome_words names outcome are)

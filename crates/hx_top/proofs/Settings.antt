-- The words, setting by setting.
use Rattle.std.specs.Prelude.{◌≡◌, ◌≤◌, ◌<◌, ◌+◌, ℕ, zero, suc, nat_le, Bool, true, false, ◌&&◌, ◌||◌, is_some, cond, List, [], ◌∷◌, ◌++◌, length, drop, count_by, Option, Some, None, String, refl}
use Rattle.std.specs.declared.alloc.Global.{Global}
use Rattle.std.proofs.Common.{sym, ◌∙◌, ap, arith, append_assoc}
use Rattle.std.proofs.lemmas.List.{append-nil}
use Rattle.std.proofs.lemmas.List.Sums.{sum_by-cons}
use Rattle.hx_exit.specs.declared.exit.Situation.{Situation}
use Rattle.hx_top.specs.Exits.{if_none_left}
use Rattle.hx_top.specs.declared.words.Setting.{Setting}
use Rattle.hx_top.specs.declared.words.Setting.TheVariants.{Fail, Fuse}
use Rattle.hx_top.specs.Words.{are_few, behind_disk, command_in, fails_of, first_setting, fuse_of, has_disk, is_fail, is_fuse, later_of, order_in, order_of, run_in, run_of, settings_before, settings_in, store_in, stored_in, texts_of, workers_behind}

-- where a setting stands in front, and where none does
pub record More (words : List (String Global)) (s : Setting) : Type 0 where
  pub settings : settings_before (texts_of words) ≡ s ∷ settings_before (texts_of (drop 2 words))
  pub command : command_in (texts_of words) ≡ command_in (texts_of (drop 2 words))
  pub left : length words ≡ 2 + length (drop 2 words)

pub more : (words : List (String Global)) (s : Setting) → first_setting (texts_of words) ≡ Some s → More words s
more [] s is = absurd (let odd : None ≡ Some s = is in cc)
more (a ∷ []) s is = absurd (let odd : None ≡ Some s = is in cc)
more (a ∷ b ∷ words) s is = record { settings = rw is; command = rw is; left = omega arith }

pub none_more : (words : List (String Global)) → first_setting (texts_of words) ≡ None → (settings_before (texts_of words) ≡ []) × (command_in (texts_of words) ≡ texts_of words)
none_more [] none = (refl, refl)
none_more (a ∷ []) none = (refl, refl)
none_more (a ∷ b ∷ words) none = (rw none, rw none)

count_more : (p : Setting → Bool) (s : Setting) (settings : List Setting) → count_by p (s ∷ settings) ≡ cond (p s) 1 0 + count_by p settings
count_more p s settings = sum_by-cons (λ (x : Setting). cond (p x) 1 0) s settings

-- one setting more is counted
pub count_next : (p : Setting → Bool) (words : List (String Global)) (s : Setting) (count all : ℕ) → More words s → count + count_by p (settings_before (texts_of words)) ≡ all → cond (p s) 1 0 + count + count_by p (settings_before (texts_of (drop 2 words))) ≡ all
count_next p words s count all next so_far =
    let here : count_by p (settings_before (texts_of words)) ≡ cond (p s) 1 0 + count_by p (settings_before (texts_of (drop 2 words))) = ap (count_by p) next.settings ∙ count_more p s (settings_before (texts_of (drop 2 words))) in
    omega (arith, here, so_far)

-- all settings are counted
all_counted : (p : Setting → Bool) (rest : List (String Global)) (count all : ℕ) → first_setting (texts_of rest) ≡ None → count + count_by p (settings_before (texts_of rest)) ≡ all → count ≡ all
all_counted p rest count all none so_far =
    let zero : count_by p (settings_before (texts_of rest)) ≡ 0 = ap (count_by p) (none_more rest none).0 in
    omega (arith, zero, so_far)

pub few_is : (words rest : List (String Global)) (fails fuses : ℕ) → first_setting (texts_of rest) ≡ None
    → fails + count_by is_fail (settings_before (texts_of rest)) ≡ count_by is_fail (settings_before (texts_of words)) → fuses + count_by is_fuse (settings_before (texts_of rest)) ≡ count_by is_fuse (settings_before (texts_of words))
    → are_few (settings_before (texts_of words)) ≡ (nat_le fails 64 && nat_le fuses 1)
few_is words rest fails fuses none fail fuse = λ i. nat_le (sym (all_counted is_fail rest fails _ none fail) i) 64 && nat_le (sym (all_counted is_fuse rest fuses _ none fuse) i) 1

pub rest_is : (words rest : List (String Global)) → first_setting (texts_of rest) ≡ None → command_in (texts_of rest) ≡ command_in (texts_of words) → texts_of rest ≡ command_in (texts_of words)
rest_is words rest none command = sym (none_more rest none).1 ∙ command

-- the order of words with few settings, and of words with too many
pub order_few : (words : List (List ℕ)) → has_disk words ≡ true → order_in words ≡ order_of (behind_disk words)
unfolding order_in
order_few words few = rw few

pub order_many : (words : List (List ℕ)) → has_disk words ≡ false → order_in words ≡ None
unfolding order_in
order_many words many = rw many

pub run_few : (words : List (List ℕ)) → has_disk words ≡ true → run_in words ≡ run_of (behind_disk words)
unfolding run_in
run_few words few = rw few

pub run_many : (words : List (List ℕ)) → has_disk words ≡ false → run_in words ≡ None
unfolding run_in
run_many words many = rw many

-- nothing before
pub fuse_first : (x : Option ℕ) → later_of None x ≡ x
fuse_first None = refl
fuse_first (Some n) = refl

-- the numbers so far
fails_split : (s : Setting) (settings : List Setting) → fails_of (s ∷ settings) ≡ fails_of (s ∷ []) ++ fails_of settings
fails_split (Fail n) settings = refl
fails_split (Fuse n) settings = refl

fuse_split : (s : Setting) (settings : List Setting) → fuse_of (s ∷ settings) ≡ later_of (fuse_of (s ∷ [])) (fuse_of settings)
fuse_split (Fail n) settings = sym (fuse_first (fuse_of settings))
fuse_split (Fuse n) settings = refl

later_joined : (first second third : Option ℕ) → later_of (later_of first second) third ≡ later_of first (later_of second third)
later_joined first second None = refl
later_joined first second (Some n) = refl

pub fails_next : (words : List (String Global)) (s : Setting) (so_far new all : List ℕ) → More words s → new ≡ so_far ++ fails_of (s ∷ []) → so_far ++ fails_of (settings_before (texts_of words)) ≡ all → new ++ fails_of (settings_before (texts_of (drop 2 words))) ≡ all
fails_next words s so_far new all next added are =
    let rest : List Setting = settings_before (texts_of (drop 2 words)) in
    ap (λ (l : List ℕ). l ++ fails_of rest) added ∙ append_assoc so_far (fails_of (s ∷ [])) (fails_of rest) ∙ ap (λ (l : List ℕ). so_far ++ l) (sym (ap fails_of next.settings ∙ fails_split s rest)) ∙ are

pub fuse_next : (words : List (String Global)) (s : Setting) (so_far new all : Option ℕ) → More words s → new ≡ later_of so_far (fuse_of (s ∷ [])) → later_of so_far (fuse_of (settings_before (texts_of words))) ≡ all → later_of new (fuse_of (settings_before (texts_of (drop 2 words)))) ≡ all
fuse_next words s so_far new all next added are =
    let rest : List Setting = settings_before (texts_of (drop 2 words)) in
    ap (λ (o : Option ℕ). later_of o (fuse_of rest)) added ∙ later_joined so_far (fuse_of (s ∷ [])) (fuse_of rest) ∙ ap (later_of so_far) (sym (ap fuse_of next.settings ∙ fuse_split s rest)) ∙ are

-- no setting is left
pub all_fails : (rest : List (String Global)) (so_far all : List ℕ) → first_setting (texts_of rest) ≡ None → so_far ++ fails_of (settings_before (texts_of rest)) ≡ all → so_far ≡ all
all_fails rest so_far all none are = sym (append-nil so_far) ∙ ap (λ (ss : List Setting). so_far ++ fails_of ss) (sym (none_more rest none).0) ∙ are

pub last_fuse : (rest : List (String Global)) (so_far all : Option ℕ) → first_setting (texts_of rest) ≡ None → later_of so_far (fuse_of (settings_before (texts_of rest))) ≡ all → so_far ≡ all
last_fuse rest so_far all none are = ap (λ (ss : List Setting). later_of so_far (fuse_of ss)) (sym (none_more rest none).0) ∙ are

-- fewer than two words, and no one or two words
pub no_setting : (words : List (String Global)) → length words < 2 → first_setting (texts_of words) ≡ None
no_setting [] few = refl
no_setting (a ∷ []) few = refl
no_setting (a ∷ b ∷ words) few = absurd (omega (arith, few))

-- neither no words nor two
pub no_workers : (guarded : Bool) (words : List (String Global)) → (length words ≡ 0 → ⊥) → (length words ≡ 2 → ⊥) → workers_behind guarded (texts_of words) ≡ None
no_workers guarded [] none two = absurd (none refl)
no_workers guarded (a ∷ []) none two = refl
no_workers guarded (a ∷ b ∷ []) none two = absurd (two refl)
no_workers guarded (a ∷ b ∷ c ∷ words) none two = refl

pub no_order : (words : List (String Global)) → (length words ≡ 1 → ⊥) → (length words ≡ 2 → ⊥) → length words < 3 → order_of (texts_of words) ≡ None
no_order [] one two few = refl
no_order (a ∷ []) one two few = absurd (one refl)
no_order (a ∷ b ∷ []) one two few = absurd (two refl)
no_order (a ∷ b ∷ c ∷ words) one two few = absurd (omega (arith, few))

-- a setting is one of the two
pub counts_once : (s : Setting) → cond (is_fail s) 1 0 + cond (is_fuse s) 1 0 ≡ 1
counts_once (Fail n) = refl
counts_once (Fuse n) = refl

-- the words behind a folder
pub texts_drop : (n : ℕ) (words : List (String Global)) → texts_of (drop n words) ≡ drop n (texts_of words)
texts_drop zero words = refl
texts_drop (suc n) [] = refl
texts_drop (suc n) (word ∷ words) = texts_drop n words

pub no_store : (words : List (String Global)) → length words < 2 → false ≡ is_some (store_in (texts_of words))
no_store [] few = refl
no_store (a ∷ []) few = refl
no_store (a ∷ b ∷ words) few = absurd (omega (arith, few))

-- where a folder is named, and where none is
pub stored_has : (words : List (List ℕ)) → true ≡ is_some (store_in words) → true ≡ has_disk words
stored_has words is = rw (sym is)

pub stored_behind : (words : List (List ℕ)) → true ≡ is_some (store_in words) → drop 2 words ≡ behind_disk words
stored_behind words is = rw (sym is)

pub unstored_has : (words : List (List ℕ)) → false ≡ is_some (store_in words) → are_few (settings_before words) ≡ has_disk words
unstored_has words is = rw (sym is)

pub unstored_behind : (words : List (List ℕ)) → false ≡ is_some (store_in words) → command_in words ≡ behind_disk words
unstored_behind words is = rw (sym is)

-- words that are no command line name no folder and have no settings; others have those that stand in front
pub none_chosen : (words : List (List ℕ)) → (is_some (order_in words) || is_some (run_in words)) ≡ false → (stored_in words ≡ None) × (settings_in words ≡ [])
none_chosen words is = (rw is, rw is)

pub some_chosen : (words : List (List ℕ)) → (is_some (order_in words) || is_some (run_in words)) ≡ true → (stored_in words ≡ store_in words) × (settings_in words ≡ settings_before words)
some_chosen words is = (rw is, rw is)

-- where words are left behind the flags of an exit
pub none_left : (words : List (String Global)) (ws : List (List ℕ)) (situation : Situation) → 1 ≤ length words → texts_of words ≡ ws → None ≡ if_none_left ws situation
none_left [] ws situation some is = absurd (omega (arith, some))
none_left (word ∷ words) ws situation some is = ap (λ (l : List (List ℕ)). if_none_left l situation) is

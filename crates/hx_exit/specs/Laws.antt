-- What an exit keeps, in other words than the definitions that the calls cite.
use Rattle.std.specs.Prelude.{◌≡◌, ◌≢◌, ◌⊎◌, ◌↔◌, ℕ, Bool, true, false, not, ◌&&◌, ◌||◌, IsTrue, IsFalse, All, List, [], ◌∷◌, ◌++◌, slice_index_or, if◌then◌else◌, refl}
use Rattle.std.proofs.Common.{ap, ◌∙◌, inl, inr, ⊎_elim}
use Rattle.std.proofs.lemmas.List.Elements.{All-nil, All-cons, All-head, All-tail}
use Rattle.hx_events.specs.declared.copies.CopyFact.{CopyFact}
use Rattle.hx_exit.specs.declared.exit.Setting.{Setting}
use Rattle.hx_exit.specs.declared.exit.Setting.TheVariants.{Off, OnExit, OnExitAndWindowClose}
use Rattle.hx_exit.specs.declared.exit.Ending.{Ending}
use Rattle.hx_exit.specs.declared.exit.Ending.TheVariants.{Quit, CloseWindow}
use Rattle.hx_exit.specs.declared.exit.Situation.{Situation}
use Rattle.hx_exit.specs.declared.exit.Decision.TheVariants.{Close, Confirm}
use Rattle.hx_exit.specs.Exits.{decision_by, ends_program, is_lost, triggers}

-- The setting isn't off, and the program quits, or its last window closes elsewhere than on a Mac, or the setting is of windows
-- too and the window has a folder.
abbrev pub IsHot : Setting → Ending → Situation → Type 0
IsHot setting ending situation =
    (setting ≢ Off) × ((ending ≡ Quit) ⊎ (IsTrue situation.last × IsFalse situation.mac) ⊎ ((setting ≡ OnExitAndWindowClose) × IsTrue situation.folder))

abbrev pub TriggersAsTheSettingSays : Type 0
TriggersAsTheSettingSays = (setting : Setting) (ending : Ending) (situation : Situation) → IsTrue (triggers setting ending situation) ↔ IsHot setting ending situation

-- The last version of each dirty copy is backed up.
abbrev pub DirtyAreBackedUp : List CopyFact → Type 0
DirtyAreBackedUp copies = All (λ copy. IsTrue copy.dirty → IsTrue copy.backed) copies

abbrev pub NoneIsDirty : List CopyFact → Type 0
NoneIsDirty copies = All (λ copy. IsFalse copy.dirty) copies

-- An exit closes exactly where it is a hot one and each dirty copy is backed up, or no copy is dirty.
abbrev pub ClosesWhereNothingIsLost : Type 0
ClosesWhereNothingIsLost = (hot : Bool) (copies : List CopyFact) → (decision_by hot copies ≡ Close) ↔ ((IsTrue hot × DirtyAreBackedUp copies) ⊎ NoneIsDirty copies)

-- Of these copies the one with this number would lose its changes, and none before it would.
pub record IsFirstLost (hot : Bool) (copies : List CopyFact) (number : ℕ) : Type 0 where
  pub before : List CopyFact
  pub copy : CopyFact
  pub behind : List CopyFact
  pub whole : copies ≡ before ++ copy ∷ behind
  pub numbered : copy.res ≡ number
  pub lost : IsTrue (is_lost hot copy)
  pub kept : All (λ other. IsFalse (is_lost hot other)) before

-- It asks about a copy exactly where that is the first one whose changes it would lose.
abbrev pub ConfirmsTheFirstThatIsLost : Type 0
ConfirmsTheFirstThatIsLost = (hot : Bool) (copies : List CopyFact) (number : ℕ) → (decision_by hot copies ≡ Confirm number) ↔ IsFirstLost hot copies number

-- ---- when an exit is a hot one
and_of : (a b : Bool) → (a && b) ≡ true → (a ≡ true) × (b ≡ true)
and_of true b h = (refl, h)
and_of false b h = absurd cc

or_of : (a b : Bool) → (a || b) ≡ true → (a ≡ true) ⊎ (b ≡ true)
or_of true b h = inl refl
or_of false b h = inr h

or_right : (a b : Bool) → b ≡ true → (a || b) ≡ true
or_right true b h = refl
or_right false b h = h

not_true : (a : Bool) → not a ≡ true → a ≡ false
not_true true h = absurd cc
not_true false h = refl

last_of : (situation : Situation) → ends_program CloseWindow situation ≡ true → IsTrue situation.last × IsFalse situation.mac
last_of situation h = let both = and_of situation.last (not situation.mac) h in (both.0, not_true situation.mac both.1)

last_ends : (last mac : Bool) → last ≡ true → mac ≡ false → (last && not mac) ≡ true
last_ends true false l m = refl
last_ends true true l m = absurd cc
last_ends false mac l m = absurd cc

-- by a setting that is of a program's end alone, where a window closes
by_end : (situation : Situation) → (CloseWindow ≡ Quit) ⊎ (IsTrue situation.last × IsFalse situation.mac) ⊎ ((OnExit ≡ OnExitAndWindowClose) × IsTrue situation.folder) → ends_program CloseWindow situation ≡ true
by_end situation (inl h) = absurd cc
by_end situation (inr (inl h)) = last_ends situation.last situation.mac h.0 h.1
by_end situation (inr (inr h)) = absurd (let no = h.0 in cc)

by_either : (situation : Situation) → (CloseWindow ≡ Quit) ⊎ (IsTrue situation.last × IsFalse situation.mac) ⊎ ((OnExitAndWindowClose ≡ OnExitAndWindowClose) × IsTrue situation.folder) → (ends_program CloseWindow situation || situation.folder) ≡ true
by_either situation (inl h) = absurd cc
by_either situation (inr (inl h)) = ap (λ b. b || situation.folder) (last_ends situation.last situation.mac h.0 h.1)
by_either situation (inr (inr h)) = or_right (ends_program CloseWindow situation) situation.folder h.1

pub triggers_as_the_setting_says : TriggersAsTheSettingSays
triggers_as_the_setting_says Off ending situation = (λ h. absurd cc, λ hot. absurd (hot.0 refl))
triggers_as_the_setting_says OnExit Quit situation = (λ h. (λ e. absurd cc, inl refl), λ hot. refl)
triggers_as_the_setting_says OnExitAndWindowClose Quit situation = (λ h. (λ e. absurd cc, inl refl), λ hot. refl)
triggers_as_the_setting_says OnExit CloseWindow situation = (λ h. (λ e. absurd cc, inr (inl (last_of situation h))), λ hot. by_end situation hot.1)
triggers_as_the_setting_says OnExitAndWindowClose CloseWindow situation = (
  λ h. (λ e. absurd cc, ⊎_elim (λ ends. inr (inl (last_of situation ends))) (λ folder. inr (inr (refl, folder))) (or_of (ends_program CloseWindow situation) situation.folder h)),
  λ hot. by_either situation hot.1,
)

-- ---- where it closes
abbrev NoneIsLost : Bool → List CopyFact → Type 0
NoneIsLost hot copies = All (λ copy. IsFalse (is_lost hot copy)) copies

none_is_lost : (hot : Bool) (copies : List CopyFact) → decision_by hot copies ≡ Close → NoneIsLost hot copies
none_is_lost hot [] h = All-nil (λ copy. IsFalse (is_lost hot copy))
none_is_lost hot (copy ∷ copies) h = go (is_lost hot copy) refl h (none_is_lost hot copies)
  where
    go : (b : Bool) → is_lost hot copy ≡ b → (if b then Confirm copy.res else decision_by hot copies) ≡ Close → (decision_by hot copies ≡ Close → NoneIsLost hot copies) → NoneIsLost hot (copy ∷ copies)
    go true is h rest = absurd cc
    go false is h rest = All-cons (λ other. IsFalse (is_lost hot other)) copy copies is (rest h)

closes : (hot : Bool) (copies : List CopyFact) → NoneIsLost hot copies → decision_by hot copies ≡ Close
closes hot [] all = refl
closes hot (copy ∷ copies) all =
    ap (λ b. if b then Confirm copy.res else decision_by hot copies) (All-head (λ other. IsFalse (is_lost hot other)) copy copies all)
    ∙ closes hot copies (All-tail (λ other. IsFalse (is_lost hot other)) copy copies all)

all_by : (P Q : CopyFact → Type 0) → ((copy : CopyFact) → P copy → Q copy) → (copies : List CopyFact) → All P copies → All Q copies
all_by P Q implies copies all k d lt = implies (slice_index_or copies k d) (all k d lt)

backed_if_dirty : (dirty backed : Bool) → (dirty && not (true && backed)) ≡ false → dirty ≡ true → backed ≡ true
backed_if_dirty true true h is = refl
backed_if_dirty true false h is = absurd cc
backed_if_dirty false backed h is = absurd cc

kept_if_backed : (dirty backed : Bool) → (dirty ≡ true → backed ≡ true) → (dirty && not (true && backed)) ≡ false
kept_if_backed true true h = refl
kept_if_backed true false h = absurd (let no = h refl in cc)
kept_if_backed false backed h = refl

clean_if_kept : (dirty backed : Bool) → (dirty && not (false && backed)) ≡ false → dirty ≡ false
clean_if_kept true backed h = absurd cc
clean_if_kept false backed h = refl

kept_if_clean : (hot dirty backed : Bool) → dirty ≡ false → (dirty && not (hot && backed)) ≡ false
kept_if_clean hot true backed h = absurd cc
kept_if_clean hot false backed h = refl

kept_of : (hot : Bool) (copies : List CopyFact) → NoneIsLost hot copies → (IsTrue hot × DirtyAreBackedUp copies) ⊎ NoneIsDirty copies
kept_of true copies all = inl (refl, all_by (λ copy. IsFalse (is_lost true copy)) (λ copy. IsTrue copy.dirty → IsTrue copy.backed) (λ copy. backed_if_dirty copy.dirty copy.backed) copies all)
kept_of false copies all = inr (all_by (λ copy. IsFalse (is_lost false copy)) (λ copy. IsFalse copy.dirty) (λ copy. clean_if_kept copy.dirty copy.backed) copies all)

of_kept : (hot : Bool) (copies : List CopyFact) → (IsTrue hot × DirtyAreBackedUp copies) ⊎ NoneIsDirty copies → NoneIsLost hot copies
of_kept true copies (inl h) = all_by (λ copy. IsTrue copy.dirty → IsTrue copy.backed) (λ copy. IsFalse (is_lost true copy)) (λ copy. kept_if_backed copy.dirty copy.backed) copies h.1
of_kept false copies (inl h) = absurd (let no = h.0 in cc)
of_kept hot copies (inr h) = all_by (λ copy. IsFalse copy.dirty) (λ copy. IsFalse (is_lost hot copy)) (λ copy. kept_if_clean hot copy.dirty copy.backed) copies h

pub closes_where_nothing_is_lost : ClosesWhereNothingIsLost
closes_where_nothing_is_lost hot copies = (λ h. kept_of hot copies (none_is_lost hot copies h), λ h. closes hot copies (of_kept hot copies h))

-- ---- where it asks
same_number : (a b : ℕ) → Confirm a ≡ Confirm b → a ≡ b
same_number a b h = cc

first_lost : (hot : Bool) (copies : List CopyFact) (number : ℕ) → decision_by hot copies ≡ Confirm number → IsFirstLost hot copies number
first_lost hot [] number h = absurd cc
first_lost hot (copy ∷ copies) number h = go (is_lost hot copy) refl h (first_lost hot copies number)
  where
    go : (b : Bool) → is_lost hot copy ≡ b → (if b then Confirm copy.res else decision_by hot copies) ≡ Confirm number → (decision_by hot copies ≡ Confirm number → IsFirstLost hot copies number) → IsFirstLost hot (copy ∷ copies) number
    go true is h rest = record { before = []; copy = copy; behind = copies; whole = refl; numbered = same_number copy.res number h; lost = is; kept = All-nil (λ other. IsFalse (is_lost hot other)) }
    go false is h rest =
        let first = rest h in
        record { before = copy ∷ first.before; copy = first.copy; behind = first.behind; whole = ap (λ xs. copy ∷ xs) first.whole; numbered = first.numbered; lost = first.lost; kept = All-cons (λ other. IsFalse (is_lost hot other)) copy first.before is first.kept }

asks : (hot : Bool) (before : List CopyFact) (copy : CopyFact) (behind : List CopyFact) (number : ℕ) → copy.res ≡ number → is_lost hot copy ≡ true → NoneIsLost hot before → decision_by hot (before ++ copy ∷ behind) ≡ Confirm number
asks hot [] copy behind number is lost kept = ap (λ b. if b then Confirm copy.res else decision_by hot behind) lost ∙ ap Confirm is
asks hot (other ∷ before) copy behind number is lost kept =
    ap (λ b. if b then Confirm other.res else decision_by hot (before ++ copy ∷ behind)) (All-head (λ x. IsFalse (is_lost hot x)) other before kept)
    ∙ asks hot before copy behind number is lost (All-tail (λ x. IsFalse (is_lost hot x)) other before kept)

pub confirms_the_first_that_is_lost : ConfirmsTheFirstThatIsLost
confirms_the_first_that_is_lost hot copies number = (
  first_lost hot copies number,
  λ first. ap (decision_by hot) first.whole ∙ asks hot first.before first.copy first.behind number first.numbered first.lost first.kept,
)

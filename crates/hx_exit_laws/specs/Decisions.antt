-- What comes of an exit over the copies of a life.
use Rattle.std.specs.Prelude.{◌≡◌, ◌<◌, ◌⊎◌, ℕ, zero, suc, ◌==◌, nat_lt, Bool, true, false, not, ◌&&◌, List, [], ◌∷◌, ◌++◌, length, if◌then◌else◌, IsTrue, refl}
use Rattle.std.proofs.Common.{arith, ap, sym, ◌∙◌, subst, inl, inr}
use Rattle.std.proofs.lemmas.Bool.Decides.{nat_tests}
use Rattle.hx_events.specs.declared.copies.CopyFact.{CopyFact}
use Rattle.hx_events.specs.declared.life.Entry.{Entry}
use Rattle.hx_events.specs.declared.life.Life.{Life}
use Rattle.hx_exit.specs.declared.exit.Decision.{Decision}
use Rattle.hx_exit.specs.declared.exit.Decision.TheVariants.{Close, Confirm}
use Rattle.hx_exit.specs.Exits.{decision_by, is_lost}
use Rattle.hx_report.specs.Copies.{copies_below, copy_fact, fact_at, fact_if}
use Rattle.hx_report.specs.Tails.{opening}
use Rattle.hx_rules.specs.Backups.{backed}
use Rattle.hx_rules.specs.Copies.{dirty, is_number, mark, registered}
use Rattle.hx_rules.specs.Entries.{own, past}
use Rattle.hx_rules.specs.Legal.{Opening, restored_at}
use Rattle.hx_rules.specs.Versions.{alternative}
use Rattle.hx_exit_laws.specs.Ends.{AsksAboutTheLowestLost, ClosesWhereALifeLosesNothing, DirtyAreBackedUp, NoneIsDirty, is_lost_at_end}

-- ---- copies behind others
close_goes_on : (hot : Bool) (xs ys : List CopyFact) → decision_by hot xs ≡ Close → decision_by hot (xs ++ ys) ≡ decision_by hot ys
close_goes_on hot [] ys h = refl
close_goes_on hot (x ∷ xs) ys h = go (is_lost hot x) h (close_goes_on hot xs ys)
  where
    go : (b : Bool) → (if b then Confirm x.res else decision_by hot xs) ≡ Close → (decision_by hot xs ≡ Close → decision_by hot (xs ++ ys) ≡ decision_by hot ys) → (if b then Confirm x.res else decision_by hot (xs ++ ys)) ≡ decision_by hot ys
    go true h rest = absurd cc
    go false h rest = rest h

ask_stays : (hot : Bool) (xs ys : List CopyFact) (c : ℕ) → decision_by hot xs ≡ Confirm c → decision_by hot (xs ++ ys) ≡ Confirm c
ask_stays hot [] ys c h = absurd cc
ask_stays hot (x ∷ xs) ys c h = go (is_lost hot x) h (ask_stays hot xs ys c)
  where
    go : (b : Bool) → (if b then Confirm x.res else decision_by hot xs) ≡ Confirm c → (decision_by hot xs ≡ Confirm c → decision_by hot (xs ++ ys) ≡ Confirm c) → (if b then Confirm x.res else decision_by hot (xs ++ ys)) ≡ Confirm c
    go true h rest = h
    go false h rest = rest h

-- one copy more: one that would be lost is registered
lost_asks : (is_registered clean hot is_backed : Bool) (c : ℕ) → ((is_registered && clean) && not (hot && is_backed)) ≡ true → decision_by hot (fact_if is_registered (copy_fact c (is_registered && clean) is_backed)) ≡ Confirm c
lost_asks true clean hot is_backed c h = ap (λ b. if b then Confirm c else Close) h
lost_asks false clean hot is_backed c h = absurd cc

kept_closes : (is_registered clean hot is_backed : Bool) (c : ℕ) → ((is_registered && clean) && not (hot && is_backed)) ≡ false → decision_by hot (fact_if is_registered (copy_fact c (is_registered && clean) is_backed)) ≡ Close
kept_closes true clean hot is_backed c h = ap (λ b. if b then Confirm c else Close) h
kept_closes false clean hot is_backed c h = refl

-- ---- the copies of the first n resources
module _ (hot : Bool) (o : Opening) (es : List Entry) where
  abbrev loses : ℕ → Bool
  loses c = dirty (restored_at o c) (own c es) && not (hot && backed (restored_at o c) (own c es))

  abbrev over : ℕ → Decision
  over n = decision_by hot (copies_below o es n)

  -- what comes of an exit over them
  data Comes (n : ℕ) : Type 0 where
    Closes : (over n ≡ Close) → ((k : ℕ) → k < n → loses k ≡ false) → Comes n
    Asks : (c : ℕ) → c < n → (over n ≡ Confirm c) → (loses c ≡ true) → ((k : ℕ) → k < c → loses k ≡ false) → Comes n

  abbrev more_of : ℕ → List CopyFact
  more_of n = fact_if (registered (restored_at o n) (own n es)) (fact_at o es n)

  all_more : (n : ℕ) → ((k : ℕ) → k < n → loses k ≡ false) → loses n ≡ false → (k : ℕ) → k < suc n → loses k ≡ false
  all_more n all here k lt = go (k == n) (λ e. grind (arith, nat_tests)) (λ e. grind (arith, nat_tests))
    where
      go : (b : Bool) → (b ≡ true → k ≡ n) → (b ≡ false → k < n) → loses k ≡ false
      go true same less = subst (λ (j : ℕ). loses j ≡ false) (sym (same refl)) here
      go false same less = all k (less refl)

  comes : (n : ℕ) → Comes n
  comes zero = Closes refl (λ k lt. absurd (omega (arith, lt)))
  comes (suc n) = step (comes n)
    where
      here : (b : Bool) → loses n ≡ b → over n ≡ Close → ((k : ℕ) → k < n → loses k ≡ false) → Comes (suc n)
      here true lost closed all =
          Asks n (omega arith) (close_goes_on hot (copies_below o es n) (more_of n) closed
          ∙ lost_asks (registered (restored_at o n) (own n es)) (not (is_number (alternative (restored_at o n) (own n es)) (mark (restored_at o n) (own n es)))) hot (backed (restored_at o n) (own n es)) n lost) lost all
      here false kept closed all =
          Closes (close_goes_on hot (copies_below o es n) (more_of n) closed
          ∙ kept_closes (registered (restored_at o n) (own n es)) (not (is_number (alternative (restored_at o n) (own n es)) (mark (restored_at o n) (own n es)))) hot (backed (restored_at o n) (own n es)) n kept) (all_more n all kept)

      step : Comes n → Comes (suc n)
      step (Closes closed all) = here (loses n) refl closed all
      step (Asks c below asks lost all) = Asks c (omega (arith, below)) (ask_stays hot (copies_below o es n) (more_of n) c asks) lost all

  differ : (c : ℕ) (d : Decision) → d ≡ Close → d ≡ Confirm c → ⊥
  differ c d h i = let e : Close ≡ Confirm c = sym h ∙ i in absurd cc

  both : (b : Bool) → b ≡ true → b ≡ false → ⊥
  both b h i = absurd (let e : true ≡ false = sym h ∙ i in cc)

  none_of : (n : ℕ) → over n ≡ Close → (k : ℕ) → k < n → loses k ≡ false
  none_of n h = go (comes n)
    where
      go : Comes n → (k : ℕ) → k < n → loses k ≡ false
      go (Closes closed all) = all
      go (Asks c below asks lost all) = absurd (differ c (over n) h asks)

  closes_of : (n : ℕ) → ((k : ℕ) → k < n → loses k ≡ false) → over n ≡ Close
  closes_of n none = go (comes n)
    where
      go : Comes n → over n ≡ Close
      go (Closes closed all) = closed
      go (Asks c below asks lost all) = absurd (both (loses c) lost (none c below))

  confirmed : (a b : ℕ) → Confirm a ≡ Confirm b → a ≡ b
  confirmed a b h = cc

  -- below n the resource c would be lost, and none below c
  pub record IsLowest (n c : ℕ) : Type 0 where
    pub below : c < n
    pub lost : loses c ≡ true
    pub kept : (k : ℕ) → k < c → loses k ≡ false

  lowest_of : (n c : ℕ) → over n ≡ Confirm c → IsLowest n c
  lowest_of n c h = go (comes n)
    where
      go : Comes n → IsLowest n c
      go (Closes closed all) = absurd (differ c (over n) closed h)
      go (Asks k below asks lost all) = subst (IsLowest n) (confirmed k c (sym asks ∙ h)) (record { below = below; lost = lost; kept = all })

  asks_of : (n c : ℕ) → IsLowest n c → over n ≡ Confirm c
  asks_of n c low = go (comes n)
    where
      go : Comes n → over n ≡ Confirm c
      go (Closes closed all) = absurd (both (loses c) low.lost (all c low.below))
      go (Asks k below asks lost all) = asks ∙ ap Confirm (same (nat_lt k c) (nat_lt c k) (λ e. grind (arith, nat_tests)) (λ e. grind (arith, nat_tests)) (λ e f. grind (arith, nat_tests)))
        where
          same : (a b : Bool) → (a ≡ true → k < c) → (b ≡ true → c < k) → (a ≡ false → b ≡ false → k ≡ c) → k ≡ c
          same true b less more equal = absurd (both (loses k) lost (low.kept k (less refl)))
          same false true less more equal = absurd (both (loses c) low.lost (all c (more refl)))
          same false false less more equal = equal refl refl

-- ---- in the words of the life
backed_if_dirty : (is_dirty is_backed : Bool) → (is_dirty && not (true && is_backed)) ≡ false → is_dirty ≡ true → is_backed ≡ true
backed_if_dirty true true h is = refl
backed_if_dirty true false h is = absurd cc
backed_if_dirty false is_backed h is = absurd cc

kept_if_backed : (is_dirty is_backed : Bool) → (is_dirty ≡ true → is_backed ≡ true) → (is_dirty && not (true && is_backed)) ≡ false
kept_if_backed true true h = refl
kept_if_backed true false h = absurd (let no = h refl in cc)
kept_if_backed false is_backed h = refl

clean_if_kept : (is_dirty is_backed : Bool) → (is_dirty && not (false && is_backed)) ≡ false → is_dirty ≡ false
clean_if_kept true is_backed h = absurd cc
clean_if_kept false is_backed h = refl

kept_if_clean : (hot is_dirty is_backed : Bool) → is_dirty ≡ false → (is_dirty && not (hot && is_backed)) ≡ false
kept_if_clean hot true is_backed h = absurd cc
kept_if_clean hot false is_backed h = refl

module _ (life : Life) where
  abbrev is_dirty_now : ℕ → Bool
  is_dirty_now c = dirty (restored_at (opening life) c) (own c (past life.history))

  abbrev is_backed_now : ℕ → Bool
  is_backed_now c = backed (restored_at (opening life) c) (own c (past life.history))

  kept_of : (hot : Bool) → ((c : ℕ) → c < length life.names → is_lost_at_end hot life c ≡ false) → (IsTrue hot × DirtyAreBackedUp life) ⊎ NoneIsDirty life
  kept_of true none = inl (refl, λ c below is. backed_if_dirty (is_dirty_now c) (is_backed_now c) (none c below) is)
  kept_of false none = inr (λ c below. clean_if_kept (is_dirty_now c) (is_backed_now c) (none c below))

  of_kept : (hot : Bool) → (IsTrue hot × DirtyAreBackedUp life) ⊎ NoneIsDirty life → (c : ℕ) → c < length life.names → is_lost_at_end hot life c ≡ false
  of_kept true (inl h) c below = kept_if_backed (is_dirty_now c) (is_backed_now c) (h.1 c below)
  of_kept false (inl h) c below = absurd (let no = h.0 in cc)
  of_kept hot (inr h) c below = kept_if_clean hot (is_dirty_now c) (is_backed_now c) (h c below)

pub closes_where_a_life_loses_nothing : ClosesWhereALifeLosesNothing
closes_where_a_life_loses_nothing hot life = (
  λ h. kept_of life hot (none_of hot (opening life) (past life.history) (length life.names) h),
  λ h. closes_of hot (opening life) (past life.history) (length life.names) (of_kept life hot h),
)

pub asks_about_the_lowest_lost : AsksAboutTheLowestLost
asks_about_the_lowest_lost hot life c = (
  λ h. let low = lowest_of hot (opening life) (past life.history) (length life.names) c h in record { below = low.below; lost = low.lost; kept = low.kept },
  λ low. asks_of hot (opening life) (past life.history) (length life.names) c (record { below = low.below; lost = low.lost; kept = low.kept }),
)

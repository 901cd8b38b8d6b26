-- The last life, and whom an exit asks about.
use Rattle.std.specs.Prelude.{◌≡◌, ◌<◌, ◌-◌, ℕ, zero, suc, Bool, true, false, List, [], ◌∷◌, ◌++◌, length, if◌then◌else◌, Some, None, get_or, slice_get, refl}
use Rattle.std.proofs.Common.{arith, ap, sym}
use Rattle.std.proofs.lemmas.Option.{slice_get_read}
use Rattle.hx_events.specs.declared.copies.CopyFact.{CopyFact}
use Rattle.hx_events.specs.declared.life.Entry.{Entry}
use Rattle.hx_events.specs.declared.life.Life.{Life}
use Rattle.hx_exit.specs.declared.exit.Decision.TheVariants.{Close, Confirm}
use Rattle.hx_exit.specs.Exits.{decision_by, is_lost}
use Rattle.hx_report.specs.Copies.{copies_at_end, copies_below, fact_at, fact_if}
use Rattle.hx_report.specs.Tails.{opening}
use Rattle.hx_report.specs.Traces.{AreWhole, IsWhole}
use Rattle.hx_rules.specs.Copies.{registered}
use Rattle.hx_rules.specs.Entries.{own, past}
use Rattle.hx_rules.specs.Legal.{Opening, restored_at}
use Rattle.hx_top.specs.Asking.{decision_at, decision_text, exit_text, exit_text_of, last_life}
use Rattle.hx_top.specs.declared.exits.ExitOrder.{ExitOrder}

pub last_is : (lives : List Life) (k : ℕ) (life : Life) → length lives ≡ suc k → slice_get lives k ≡ Some life → last_life lives ≡ Some life
last_is [] k life is at = absurd cc
last_is (first ∷ []) zero life is at = at
last_is (first ∷ []) (suc k) life is at = absurd cc
last_is (first ∷ next ∷ lives) zero life is at = absurd cc
last_is (first ∷ next ∷ lives) (suc k) life is at = last_is (next ∷ lives) k life (omega (arith, is)) at

pub whole_at : (lives : List Life) (k : ℕ) (life : Life) → AreWhole lives → slice_get lives k ≡ Some life → IsWhole life
whole_at [] k life whole at = absurd (let no : None ≡ Some life = at in cc)
whole_at (first ∷ lives) zero life whole at = let same : first ≡ life = (let is : Some first ≡ Some life = at in cc) in rw (sym same) whole.0
whole_at (first ∷ lives) (suc k) life whole at = whole_at lives k life whole.1 at

positive : (n : ℕ) → (n ≡ 0 → ⊥) → 0 < n
positive zero some = absurd (some refl)
positive (suc n) some = omega arith

pub last_count : (lives : List Life) → (length lives ≡ 0 → ⊥) → length lives ≡ suc (length lives - 1)
last_count lives some = let is = positive (length lives) some in omega (arith, is)

pub last_read : (lives : List Life) (life : Life) → (length lives ≡ 0 → ⊥) → life ≡ get_or lives (length lives - 1) life → slice_get lives (length lives - 1) ≡ Some life
last_read lives life some is = slice_get_read lives (length lives) (length lives - 1) life refl (let more = positive (length lives) some in omega (arith, more)) is

-- an exit asks about a copy of the first ones or of the rest
asks_of : (hot : Bool) (xs : List CopyFact) (fact : CopyFact) (b : Bool) (n c : ℕ) → fact.res ≡ n → ((c : ℕ) → decision_by hot xs ≡ Confirm c → c < n) → decision_by hot (xs ++ fact_if b fact) ≡ Confirm c → c < suc n
asks_of hot [] fact true n c is below asked = go (is_lost hot fact) asked
  where
    go : (lost : Bool) → (if lost then Confirm fact.res else Close) ≡ Confirm c → c < suc n
    go true asked = let same : fact.res ≡ c = cc in omega (arith, is, same)
    go false asked = absurd cc
asks_of hot [] fact false n c is below asked = absurd cc
asks_of hot (x ∷ xs) fact b n c is below asked = go (is_lost hot x) refl below asked (asks_of hot xs fact b n c is)
  where
    go : (lost : Bool) → is_lost hot x ≡ lost → ((c : ℕ) → (if lost then Confirm x.res else decision_by hot xs) ≡ Confirm c → c < n) → (if lost then Confirm x.res else decision_by hot (xs ++ fact_if b fact)) ≡ Confirm c
        → (((c : ℕ) → decision_by hot xs ≡ Confirm c → c < n) → decision_by hot (xs ++ fact_if b fact) ≡ Confirm c → c < suc n) → c < suc n
    go true eq below asked rest = let le : c < n = below c asked in omega (arith, le)
    go false eq below asked rest = rest below asked

pub asks_known : (hot : Bool) (o : Opening) (es : List Entry) (n c : ℕ) → decision_by hot (copies_below o es n) ≡ Confirm c → c < n
asks_known hot o es zero c asked = absurd cc
asks_known hot o es (suc n) c asked = asks_of hot (copies_below o es n) (fact_at o es n) (registered (restored_at o n) (own n es)) n c refl (asks_known hot o es n) asked

-- what is printed of the last of these lives, and whom its exit asks about
pub last_text : (order : ExitOrder) (lives : List Life) (k : ℕ) (life : Life) → length lives ≡ suc k → slice_get lives k ≡ Some life → exit_text order lives ≡ decision_text life.names (decision_at order life)
last_text order lives k life is at = ap (exit_text_of order) (last_is lives k life is at)

pub asks_at_end : (hot : Bool) (life : Life) (c : ℕ) → decision_by hot (copies_at_end life) ≡ Confirm c → c < length life.names
asks_at_end hot life c asked = asks_known hot (opening life) (past life.history) (length life.names) c asked

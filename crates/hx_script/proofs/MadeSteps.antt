-- The generated names are new each, and the generated script is well made.
use Rattle.std.proofs.Common.{◌≡◌, ◌≤◌, ◌<◌, ℕ, zero, suc, ◌+◌, ◌*◌, ◌/◌, ◌%◌, Bool, true, false, List, [], ◌∷◌, ◌++◌, length, length-append, None, nat_lt, refl, sym, ◌∙◌, ap, subst, arith, Result, Ok, Err, IfOk}
use Rattle.std.specs.Prelude.{All, bytes_eq, ◌==◌, if◌then◌else◌, decimal}
use Rattle.std.proofs.lemmas.List.Elements.{All-append}
use Rattle.std.proofs.lemmas.Slice.Eq.{bytes_eq-Decides}
use Rattle.hx_events.specs.Places.{is_named, place_of}
use Rattle.hx_events.specs.Resources.{is_resource}
use Rattle.hx_events.proofs.PlaceLemmas.{none_push}
use Rattle.hx_events.specs.declared.event.Actor.TheVariants.{Window, Writer, Saver}
use Rattle.hx_events.specs.declared.event.Command.TheVariants.{Create, Edit, Save}
use Rattle.hx_events.specs.declared.event.Event.TheVariants.{Act, Vault, Flush}
use Rattle.hx_script.specs.declared.script.Plant.{Plant}
use Rattle.hx_script.specs.declared.script.Script.{Script}
use Rattle.hx_script.specs.declared.script.Step.{Step}
use Rattle.hx_script.specs.declared.script.Step.TheVariants.{Do, Restart}
use Rattle.hx_script.specs.Made.{made_name, made_names, creates, turn_of_kind, turn, turns, number_after, made_script}
use Rattle.hx_script.specs.Scripts.{IsStepOf, IsWellMade}

none : {X : Type 0} (P : X → Type 0) → All P []
none P k d lt = absurd (omega (arith, lt))

only : {X : Type 0} (P : X → Type 0) (x : X) → P x → All P (x ∷ [])
only P x holds zero d lt = holds
only P x holds (suc k) d lt = absurd (omega (arith, lt))

pub count_names : (k : ℕ) → length (made_names k) ≡ k
count_names zero = refl
count_names (suc k) = length-append (made_names k) (made_name k ∷ []) ∙ omega (arith, count_names k)

untrue : (b : Bool) → (b ≡ true → ⊥) → b ≡ false
untrue true is = absurd (is refl)
untrue false is = refl

last_of : (a b : ℕ) → (109 ∷ 101 ∷ 109 ∷ 58 ∷ 47 ∷ a ∷ []) ≡ (109 ∷ 101 ∷ 109 ∷ 58 ∷ 47 ∷ b ∷ []) → a ≡ b
last_of a b same = cc

other_name : (j k : ℕ) → k < j → is_named (made_name j) (made_name k) ≡ false
other_name j k less = untrue (bytes_eq (made_name k) (made_name j)) (λ is. let same = last_of (48 + k) (48 + j) ((bytes_eq-Decides (made_name k) (made_name j)).0 is) in omega (arith, same, less))

name_is_new : (j k : ℕ) → k ≤ j → place_of (made_name j) (made_names k) ≡ None
name_is_new j zero le = refl
name_is_new j (suc k) le = none_push (made_name j) (made_name k) 0 (made_names k) (other_name j k (omega (arith, le))) (name_is_new j k (omega (arith, le)))

pub fresh : (j : ℕ) (name : List ℕ) (names : List (List ℕ)) → name ≡ made_name j → names ≡ made_names j → place_of name names ≡ None
fresh j name names is same = ap (λ (r : List ℕ). place_of r names) is ∙ ap (place_of (made_name j)) same ∙ name_is_new j j (omega arith)

name_is_resource : (k : ℕ) → k < 8 → is_resource (made_name k) ≡ true
name_is_resource zero lt = refl
name_is_resource (suc zero) lt = refl
name_is_resource (suc (suc zero)) lt = refl
name_is_resource (suc (suc (suc zero))) lt = refl
name_is_resource (suc (suc (suc (suc zero)))) lt = refl
name_is_resource (suc (suc (suc (suc (suc zero))))) lt = refl
name_is_resource (suc (suc (suc (suc (suc (suc zero)))))) lt = refl
name_is_resource (suc (suc (suc (suc (suc (suc (suc zero))))))) lt = refl
name_is_resource (suc (suc (suc (suc (suc (suc (suc (suc k)))))))) lt = absurd (omega (arith, lt))

are_resources : (k : ℕ) → k ≤ 8 → All (λ name. is_resource name ≡ true) (made_names k)
are_resources zero le = none (λ (name : List ℕ). is_resource name ≡ true)
are_resources (suc k) le = All-append (λ (name : List ℕ). is_resource name ≡ true) (made_names k) (made_name k ∷ []) (are_resources k (omega (arith, le))) (only (λ (name : List ℕ). is_resource name ≡ true) (made_name k) (name_is_resource k (omega (arith, le))))

abbrev create : ℕ → Step
create k = Do (Window k) (Act (Create k))

module _ (names : List (List ℕ)) (enough : 8 ≤ length names) where
  creates_are : (k : ℕ) → k ≤ 8 → All (IsStepOf names) (creates k)
  creates_are zero le = none (IsStepOf names)
  creates_are (suc k) le = All-append (IsStepOf names) (creates k) (create k ∷ []) (creates_are k (omega (arith, le))) (only (IsStepOf names) (create k) (omega (arith, le, enough), tt))

  turn_is : (kind i k : ℕ) → k < 8 → IsStepOf names (turn_of_kind kind i k)
  turn_is kind i k lt = by_tests (nat_lt kind 3) (nat_lt kind 5) (kind == 5)
    where
      here : k < length names
      here = omega (arith, lt, enough)

      by_tests : (a b c : Bool) → IsStepOf names (if a then Do (Window k) (Act (Edit k 0 0 (decimal i))) else if b then Do (Writer 0) (Vault k) else if c then Do (Window k) (Act (Save k false false)) else Do (Saver 0) (Flush k))
      by_tests true b c = (here, tt)
      by_tests false true c = (here, tt)
      by_tests false false true = (here, tt)
      by_tests false false false = (here, tt)

  turns_are : (n count : ℕ) → All (IsStepOf names) (turns n count)
  turns_are n zero = none (IsStepOf names)
  turns_are n (suc i) = All-append (IsStepOf names) (turns n i) (turn (suc i) (number_after n (suc i)) ∷ []) (turns_are n i)
      (only (IsStepOf names) (turn (suc i) (number_after n (suc i))) (turn_is ((number_after n (suc i) / 8) % 8) (suc i) (number_after n (suc i) % 8) (omega arith)))

pub made_well : (n : ℕ) → IsWellMade (made_script n)
unfolding made_script
made_well n =
    let eight : length (made_names 8) ≡ 8 = count_names 8 in record {
      few = omega (arith, eight);
      resources = are_resources 8 (omega arith);
      plants = none (λ (plant : Plant). plant.file < 128);
      steps = All-append (IsStepOf (made_names 8)) (creates 8 ++ turns n (8 * n)) (Restart ∷ []) (All-append (IsStepOf (made_names 8)) (creates 8) (turns n (8 * n)) (creates_are (made_names 8) (omega (arith, eight)) 8 (omega arith)) (turns_are (made_names 8) (omega (arith, eight)) n (8 * n))) (only (IsStepOf (made_names 8)) Restart tt);
    }

pub well_if : {E : Type 0} (n : ℕ) (result : Result Script E) → IfOk result (λ script. script ≡ made_script n) → IfOk result IsWellMade
well_if n (Ok script) is = subst IsWellMade (sym is) (made_well n)
well_if n (Err e) is = tt

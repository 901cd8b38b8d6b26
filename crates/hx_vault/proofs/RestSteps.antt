-- Calls that change nothing, one behind the other.
use Rattle.std.specs.Prelude.{◌≡◌, ◌≤◌, ◌<◌, ℕ, ◌+◌, ◌*◌, Bool, IsTrue, List, [], length, take, drop, min}
use Rattle.std.proofs.Common.{sym, ◌∙◌, ap, subst, arith}
use Rattle.std.proofs.lemmas.List.{take_min}
use Rattle.hx_disk.specs.File.{FileState}
use Rattle.hx_disk.specs.Disk.{ChangesNothing}

pub both_rest : {D : Type 0} (moment : D → ℕ) (past : D → ℕ → ℕ → FileState) (now : D → ℕ → FileState) (a b c : D) → ChangesNothing moment past now a b → ChangesNothing moment past now b c → ChangesNothing moment past now a c
both_rest moment past now a b c first second = record {
  still = second.still ∙ first.still;
  kept = λ t f le. second.kept t f (omega (arith, le, first.still)) ∙ first.kept t f le;
  same = λ f. second.same f ∙ first.same f;
}

-- what is read of a file up to a limit
pub front_read : (n m : ℕ) (xs : List ℕ) → n ≡ min (length xs) m → take n (drop 0 xs) ≡ take m xs
front_read n m xs is = ap (λ k. take k xs) (is ∙ (let e : min (length xs) m ≡ min m (length xs) = omega arith in e)) ∙ take_min m xs

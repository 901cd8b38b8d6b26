-- Two runs in turn, each on a file of its own, with calls between that change nothing.
use Rattle.std.proofs.Common.{◌≡◌, ◌≢◌, ℕ, List, refl, sym, ◌∙◌, subst, ⊎_elim}
use Rattle.std.proofs.lemmas.Bool.Decides.{eqb_tells}
use Rattle.hx_disk.specs.Disk.{ChangesNothing, Left, Through, ThroughAll}
use Rattle.hx_disk.specs.File.{FileState, IsImage}
use Rattle.hx_disk.specs.Runs.{through_all, all_started, all_rested, all_joined, all_now, all_left, others_now}

module _ {D : Type 0} (moment : D → ℕ) (past : D → ℕ → ℕ → FileState) (now : D → ℕ → FileState) (present : (d : D) (f : ℕ) → past d (moment d) f ≡ now d f)
    (first second : ℕ) (P Q : FileState → Type 0) (old ready shut again new : D) (made : ChangesNothing moment past now old ready) (run : Through moment past first P ready shut)
    (made_again : ChangesNothing moment past now shut again) (run_again : Through moment past second Q again new) where
  -- every further file is as it was
  IsAsBefore : ℕ → FileState → Type 0
  IsAsBefore f s = f ≢ first → f ≢ second → s ≡ now old f

  as_before : ThroughAll moment past IsAsBefore old new
  unfolding IsAsBefore
  as_before =
      let begun : ThroughAll moment past IsAsBefore old ready = all_rested moment past now present IsAsBefore old old ready (all_started moment past now present IsAsBefore old (λ f one two. refl)) made in
      let once : ThroughAll moment past IsAsBefore ready shut = through_all moment past now present first P IsAsBefore ready shut run (λ s p one two. absurd (one refl)) (λ f apart one two. made.same f) in
      let between : ThroughAll moment past IsAsBefore old again = all_rested moment past now present IsAsBefore old shut again (all_joined moment past now present IsAsBefore old ready shut begun once) made_again in
      let twice : ThroughAll moment past IsAsBefore again new = through_all moment past now present second Q IsAsBefore again new run_again (λ s p one two. absurd (two refl)) (λ f apart. all_now moment past now present IsAsBefore old again between f) in
      all_joined moment past now present IsAsBefore old again new between twice

  pub others_left : (image : ℕ → List ℕ) → Left (past new) (moment old) (moment new) image → (f : ℕ) → f ≢ first → f ≢ second → IsImage (now old f) (image f)
  unfolding IsAsBefore
  others_left = all_left moment past now present IsAsBefore (λ f image. f ≢ first → f ≢ second → IsImage (now old f) image) old new as_before
      (λ f s image same is one two. subst (λ (n : FileState). IsImage n image) (same one two) is)

  -- what holds of the first file after its run, and of the second after its own, holds of both at the end
  pub first_now : (R : FileState → Type 0) → R (now shut first) → R (now new second) → R (now new first)
  first_now R one two = ⊎_elim
      (λ same. subst (λ n. R (now new n)) (sym same.1) two)
      (λ apart. subst R (sym (others_now moment past now present second Q again new run_again first apart.1 ∙ made_again.same first)) one)
      (eqb_tells first second)

-- How a run ends by how far its script was played.
use Rattle.std.specs.Prelude.{◌≡◌, ℕ, Bool, List, [], reverse, refl}
use Rattle.std.proofs.Common.{sym, ◌∙◌, subst, inl, inr}
use Rattle.hx_events.specs.declared.life.Life.{Life}
use Rattle.hx_script.specs.declared.script.Step.{Step}
use Rattle.hx_script.specs.Follows.{Follows, StopsAtOpening, StopsForMemory}
use Rattle.hx_play.specs.declared.playing.Halt.{Halt}
use Rattle.hx_play.specs.declared.playing.Halt.TheVariants.{Done as ToTheEnd, OpenFault as ToAnOpening, NoMemory as ToWantOfMemory}
use Rattle.hx_play.specs.Runs.{HaveRun, HaveRunInPart}
use Rattle.hx_top.specs.declared.whole.End.{End}
use Rattle.hx_top.specs.declared.whole.End.TheVariants.{Done, Usage, BadScript, ReadFault, WriteFault, NoMemory, OpenFault, NotHistory}
use Rattle.hx_top.specs.Runs.{RunTo}
use Rattle.hx_top.specs.Whole.{EndsAs, FollowTo, IsOfPlay, IsOfPrint}

pub of_play : (halt : Halt) (end : End) → EndsAs halt end → IsOfPlay end
of_play ToTheEnd Done ends = tt
of_play ToTheEnd WriteFault ends = tt
of_play ToTheEnd NoMemory ends = tt
of_play ToTheEnd Usage ends = absurd ends
of_play ToTheEnd (BadScript line why) ends = absurd ends
of_play ToTheEnd ReadFault ends = absurd ends
of_play ToTheEnd OpenFault ends = absurd ends
of_play ToTheEnd NotHistory ends = absurd ends
of_play ToAnOpening end ends = subst IsOfPlay (sym ends) tt
of_play ToWantOfMemory end ends = subst IsOfPlay (sym ends) tt

-- a run that ends so has failed at planting or at an opening
pub opening_failed : (halt : Halt) (end : End) → EndsAs halt end → end ≡ OpenFault → halt ≡ ToAnOpening
opening_failed ToTheEnd end ends is = absurd (subst IsOfPrint is ends)
opening_failed ToAnOpening end ends is = refl
opening_failed ToWantOfMemory end ends is = absurd (let odd : NoMemory ≡ OpenFault = sym ends ∙ is in cc)

-- what holds by how far the script was played holds by how the run ended
to_end : (P : End → Type 0) (halt : Halt) (end : End) → EndsAs halt end → (halt ≡ ToTheEnd → P Done) → (halt ≡ ToTheEnd → P WriteFault) → (halt ≡ ToTheEnd → P NoMemory) → (halt ≡ ToAnOpening → P OpenFault) → (halt ≡ ToWantOfMemory → P NoMemory) → P end
to_end P ToTheEnd Done ends done written unprinted opening memory = done refl
to_end P ToTheEnd WriteFault ends done written unprinted opening memory = written refl
to_end P ToTheEnd NoMemory ends done written unprinted opening memory = unprinted refl
to_end P ToTheEnd Usage ends done written unprinted opening memory = absurd ends
to_end P ToTheEnd (BadScript line why) ends done written unprinted opening memory = absurd ends
to_end P ToTheEnd ReadFault ends done written unprinted opening memory = absurd ends
to_end P ToTheEnd OpenFault ends done written unprinted opening memory = absurd ends
to_end P ToTheEnd NotHistory ends done written unprinted opening memory = absurd ends
to_end P ToAnOpening end ends done written unprinted opening memory = subst P (sym ends) (opening refl)
to_end P ToWantOfMemory end ends done written unprinted opening memory = subst P (sym ends) (memory refl)

pub followed : (halt : Halt) (end : End) (guarded : Bool) (declared : List (List ℕ)) (steps : List Step) (lives : List Life) → EndsAs halt end → (halt ≡ ToTheEnd → Follows guarded declared (reverse steps) lives)
    → (halt ≡ ToAnOpening → StopsAtOpening guarded declared steps lives) → (halt ≡ ToWantOfMemory → StopsForMemory guarded declared steps lives) → FollowTo end guarded declared steps lives
followed halt end guarded declared steps lives ends done opening memory = to_end (λ e. FollowTo e guarded declared steps lives) halt end ends done done (λ is. inr (done is)) opening (λ is. inl (memory is))

pub ran : (halt : Halt) (end : End) (guarded : Bool) (declared : List (List ℕ)) (steps : List Step) (lives : List Life) → EndsAs halt end → (halt ≡ ToTheEnd → HaveRun guarded declared steps lives)
    → (halt ≡ ToAnOpening → lives ≡ []) → (halt ≡ ToWantOfMemory → HaveRunInPart guarded declared steps lives) → RunTo end guarded declared steps lives
ran halt end guarded declared steps lives ends done opening memory = to_end (λ e. RunTo e guarded declared steps lives) halt end ends done done (λ is. inr (done is)) opening (λ is. inl (memory is))

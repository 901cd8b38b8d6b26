-- What was played has kept what its guarded lives kept.
use Rattle.std.specs.Prelude.{ℕ, Bool, IsTrue, List}
use Rattle.std.proofs.Common.{sym, subst, ⊎_elim}
use Rattle.hx_disk.specs.File.{FileState}
use Rattle.hx_events.specs.declared.life.Life.{Life}
use Rattle.hx_guarded_laws.specs.Guards.{lives_guarded}
use Rattle.hx_guarded_laws.specs.Lives.{HaveKept}
use Rattle.hx_lives.specs.Course.{Past}
use Rattle.hx_play.specs.Played.{ArePlayed}
use Rattle.hx_script.specs.declared.script.Plant.{Plant}

pub played_kept : (picked : ℕ → FileState → List ℕ) (tells : Bool) (past : Past) (plants : List Plant) (a start b end : ℕ) (lives : List Life) → ArePlayed picked tells past plants a start b end lives → IsTrue tells → HaveKept past b lives
played_kept picked tells past plants a start b end lives played is = ⊎_elim
    (λ lived. lives_guarded picked tells past lived.first b lives lived.over.lived is)
    (λ none. subst (HaveKept past b) (sym none.none) tt)
    played

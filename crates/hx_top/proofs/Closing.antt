-- Where an exit closed over lives that weren't guarded, all that is dirty comes back.
use Rattle.std.specs.Prelude.{◌≡◌, ℕ, Bool, false, IsTrue, List, [], ◌∷◌, reverse}
use Rattle.std.proofs.Common.{ap, subst, ⊎_elim}
use Rattle.hx_disk.specs.File.{FileState}
use Rattle.hx_events.specs.declared.life.Life.{Life}
use Rattle.hx_exit.specs.Exits.{triggers}
use Rattle.hx_exit_laws.specs.Back.{close_brings_all_back}
use Rattle.hx_lives.specs.Course.{Past}
use Rattle.hx_play.specs.Played.{ArePlayed}
use Rattle.hx_script.specs.Follows.{Follows}
use Rattle.hx_script.specs.declared.script.Plant.{Plant}
use Rattle.hx_script.specs.declared.script.Step.{Step}
use Rattle.hx_top.specs.Asking.{ClosesSafely}
use Rattle.hx_top.specs.declared.exits.ExitOrder.{ExitOrder}
use Rattle.hx_top.specs.declared.whole.End.{End}
use Rattle.hx_top.specs.declared.whole.End.TheVariants.{Done}
use Rattle.hx_top.specs.declared.words.Task.{Task}
use Rattle.hx_top.specs.declared.words.Task.TheVariants.{Exit}
use Rattle.hx_top.specs.Whole.{FollowTo, is_guarded}

plain_closes : (picked : ℕ → FileState → List ℕ) (tells : Bool) (past : Past) (order : ExitOrder) (declared : List (List ℕ)) (steps : List Step) (plants : List Plant) (a start b count : ℕ) (lives : List Life)
    → Follows false declared steps lives → ArePlayed picked tells past plants a start b count lives → IsTrue tells → ClosesSafely order past b lives
plain_closes picked tells past order declared steps plants a start b count [] follows played is = tt
plain_closes picked tells past order declared steps plants a start b count (life ∷ earlier) follows played is = λ closed.
    ⊎_elim
    (λ lived. close_brings_all_back picked tells past b life (triggers order.setting order.ending order.situation) lived.over.lived.0 is follows.0.guarded_so closed)
    (λ none. absurd (let odd = none.none in cc))
    played

pub played_closes : (picked : ℕ → FileState → List ℕ) (tells : Bool) (past : Past) (task : Task) (order : ExitOrder) (end : End) (declared : List (List ℕ)) (steps : List Step) (plants : List Plant) (a start b count : ℕ) (lives : List Life)
    → FollowTo end (is_guarded task) declared steps lives → ArePlayed picked tells past plants a start b count lives → task ≡ Exit order → IsTrue tells → end ≡ Done → ClosesSafely order past b lives
played_closes picked tells past task order end declared steps plants a start b count lives follows played exit is done =
    let plain : FollowTo end false declared steps lives = subst (λ (guarded : Bool). FollowTo end guarded declared steps lives) (ap is_guarded exit) follows in
    let to_the_end : FollowTo Done false declared steps lives = subst (λ (e : End). FollowTo e false declared steps lives) done plain in
    plain_closes picked tells past order declared (reverse steps) plants a start b count lives to_the_end played is

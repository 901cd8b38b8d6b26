-- What comes of an exit at the end of a script.
use Rattle.std.specs.Prelude.{◌≡◌, ℕ, List, [], ◌∷◌, ◌++◌, codes, Option, Some, None}
use Rattle.hx_events.specs.declared.life.Life.{Life}
use Rattle.hx_events.specs.Texts.{name_of}
use Rattle.hx_exit.specs.declared.exit.Decision.{Decision}
use Rattle.hx_exit.specs.declared.exit.Decision.TheVariants.{Close, Confirm}
use Rattle.hx_exit.specs.Exits.{decision_by, triggers}
use Rattle.hx_exit_laws.specs.Ends.{AllComeBack}
use Rattle.hx_lives.specs.Course.{Past}
use Rattle.hx_report.specs.Copies.{copies_at_end}
use Rattle.hx_top.specs.declared.exits.ExitOrder.{ExitOrder}

-- what comes of the exit that is asked about, at the end of this life
abbrev pub decision_at : ExitOrder → Life → Decision
decision_at order life = decision_by (triggers order.setting order.ending order.situation) (copies_at_end life)

-- `close`, or `confirm` and the resource of the copy that the user is asked about
abbrev pub decision_text : List (List ℕ) → Decision → List ℕ
decision_text names Close = codes "close\n"
decision_text names (Confirm c) = codes "confirm " ++ name_of names c ++ codes "\n"

abbrev pub last_life : List Life → Option Life
last_life [] = None
last_life (life ∷ []) = Some life
last_life (life ∷ next ∷ lives) = last_life (next ∷ lives)

abbrev pub exit_text_of : ExitOrder → Option Life → List ℕ
exit_text_of order None = []
exit_text_of order (Some life) = decision_text life.names (decision_at order life)

-- what is printed of an exit at the end of the last of these lives
abbrev pub exit_text : ExitOrder → List Life → List ℕ
exit_text order lives = exit_text_of order (last_life lives)

-- Where the exit closes, all that is dirty at the end of the newest of these lives comes back at the next start, whatever a crash leaves
-- up to the moment b.
abbrev pub ClosesSafely : ExitOrder → Past → ℕ → List Life → Type 0
ClosesSafely order past b [] = Unit {0}
ClosesSafely order past b (life ∷ earlier) = decision_at order life ≡ Close → AllComeBack past b life

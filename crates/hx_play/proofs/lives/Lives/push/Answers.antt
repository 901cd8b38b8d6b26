use Rattle.std.proofs.Common.{◌∙◌, ◌∷◌, reverse, ap}
use Rattle.hx_play.specs.Over.{LivesState}
use Rattle.hx_play.proofs.Halts.{taken_more}
use Rattle.hx_play.proofs.lives.Lives.push.Goals as goal

pub returns : goal.returns
returns c = ap reverse c.push_reserved.ensures.items ∙ taken_more c.self.inside.items.items c.args.life ∙ ap (λ (l : LivesState). c.args.life ∷ l.lives) c.self.view_is

use Rattle.hx_history.proofs.frames.behind_first.Goals as goal

pub returns : goal.returns
returns c = c.behind.ensures

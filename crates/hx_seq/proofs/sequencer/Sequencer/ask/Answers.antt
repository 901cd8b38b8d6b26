use Rattle.hx_seq.proofs.sequencer.Sequencer.ask.Goals as goal

pub returns-clause-keeps : goal.returns-clause-keeps
returns-clause-keeps c = c.note.ensures.keeps c.args.dirty

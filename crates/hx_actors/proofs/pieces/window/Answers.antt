use Rattle.std.proofs.Common.{◌∙◌, ap}
use Rattle.hx_rules.specs.Interleavings.{is_some_window}
use Rattle.hx_actors.proofs.Steps.{done_left, sound_left}
use Rattle.hx_actors.proofs.pieces.window.Goals as goal

pub leave-requires : goal.leave-requires
leave-requires g c = c.commands-made.ensures.keeps.leaves ∙ c.requires.unused.leaves

pub returns-clause-sound : goal.returns-clause-sound
returns-clause-sound g c = sound_left c.args.script.items c.commands-made.new.pass c.leave.new.pass c.leave.ensures.left c.commands-made.ensures.sound

pub returns-clause-done : goal.returns-clause-done
returns-clause-done g c = done_left c.commands-made.new.pass c.leave.new.pass c.leave.ensures.left (c.commands-made.ensures.keeps.leaves ∙ c.requires.unused.leaves) (ap is_some_window c.commands-made.ensures.keeps.actor ∙ c.requires.window) c.commands-made.ensures.sound.order

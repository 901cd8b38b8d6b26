use Rattle.std.specs.Prelude.{◌≡◌, ◌+◌, ◌++◌, length, vec_len}
use Rattle.std.specs.Vec.Iter.{into_iter_items, into_iter_len}
use Rattle.hx_actors.specs.Work.{IsInOrder, events}
use Rattle.hx_actors.specs.Pieces.{IsNamed, Keeps, events_in}
use Rattle.hx_actors.proofs.pieces.commands.Given as goal

abbrev pub invariant-loop-command : goal.invariant-loop-command
invariant-loop-command g l = record {
  keeps : Keeps l.fn.pass l.pass;
  order : IsInOrder l.pass;
  whole : events_in l.fn.script.items ≡ events_in (into_iter_items l.command-iterator) ++ events l.pass.calls;
  named : IsNamed (length g.J.Naming.life.names) (into_iter_items l.command-iterator);
  count : l.number + into_iter_len l.command-iterator ≡ vec_len l.fn.script;
}

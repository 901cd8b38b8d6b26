use Rattle.std.specs.Prelude.{◌≡◌, ◌<◌, ◌+◌, ◌++◌, length, map}
use Rattle.std.specs.Vec.Iter.{into_iter_items, into_iter_len}
use Rattle.hx_passes.specs.Rules.{Each}
use Rattle.hx_actors.specs.Pieces.{IsNamed, IsReady, Lends, duty_of, parts_of}
use Rattle.hx_actors.proofs.crew.Crew.man.Given as goal

abbrev pub invariant-loop-task : goal.invariant-loop-task
invariant-loop-task g l = record {
  whole : map duty_of l.self ++ into_iter_items l.task-iterator ≡ l.fn.tasks.items;
  ready : Each (IsReady (length g.J.Naming.life.names)) l.self;
  named : Each (λ d. IsNamed (length g.J.Naming.life.names) d.script) (into_iter_items l.task-iterator);
  parts : l.first.parts + parts_of l.self ≡ l.fn.first.parts;
  room : into_iter_len l.task-iterator < l.first.parts;
  lends : Lends l.fn.first l.first;
}

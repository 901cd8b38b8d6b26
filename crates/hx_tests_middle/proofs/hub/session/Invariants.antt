use Rattle.std.proofs.Common.{◌≡◌, []}
use Rattle.hx_tests_middle.proofs.hub.session.Given as goal

abbrev pub invariant-loop-line : goal.invariant-loop-line
invariant-loop-line g l = record {
  closer : l.closer.parts ≡ l.fn.closer.parts;
  window : l.window.parts ≡ 1;
  here : l.window.leaves ≡ [];
  writer : l.writer.parts ≡ 1;
  saver : l.saver.parts ≡ 1;
}

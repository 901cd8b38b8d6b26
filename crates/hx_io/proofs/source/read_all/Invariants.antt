use Rattle.std.proofs.Common.{◌≡◌, ◌≤◌, ◌+◌, ◌-◌, ◌++◌, IsTrue, vec_len}
use Rattle.hx_io.proofs.source.read_all.Given as goal

abbrev pub invariant-turns : goal.invariant-turns
invariant-turns g l = record {
  within : vec_len l.bytes ≤ l.limit;
  kept : g.S.Source.failures l.source ≡ g.S.Source.failures l.initial.source;
  given : g.S.Source.given l.source ≡ g.S.Source.given l.initial.source ++ l.bytes.items;
  whole : IsTrue g.S.Source.tells → g.S.Source.given l.source ++ g.S.Source.left l.source ≡ g.S.Source.given l.initial.source ++ g.S.Source.left l.initial.source;
}

abbrev pub decreases-turns : goal.decreases-turns
decreases-turns g l = l.limit + 1 - vec_len l.bytes

use Rattle.std.proofs.Common.{arith}
use Rattle.hx_history_laws.specs.Saves.{entries_still}
use Rattle.hx_history.proofs.parts.Parts.catch_up.Goals as goal

pub returns-then-count-le-ENTRIES_KEPT-clause-moments : goal.returns-then-count-le-ENTRIES_KEPT-clause-moments
returns-then-count-le-ENTRIES_KEPT-clause-moments g c = λ told.
    let s = c.args.self.now in
    entries_still g.D.Disk.time g.D.Disk.past g.D.Disk.now g.met.D.Disk.present s.entries.items s.places.items s.vault s.disk c.requires.orderly (c.requires.kept told)

pub empty_first-requires-clause-full : goal.empty_first-requires-clause-full
empty_first-requires-clause-full g c = let few = c.requires.orderly.placed.few in omega (arith, few)

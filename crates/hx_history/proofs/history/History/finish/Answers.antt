use Rattle.hx_history_laws.specs.Saves.{seen_entries, seen_histories, seen_none_above}
use Rattle.hx_history.proofs.history.History.finish.Goals as goal

pub returns-clause-kept : goal.returns-clause-kept
returns-clause-kept g c = λ told.
    let p = c.self.inside.parts in
    seen_entries g.D.Disk.time g.D.Disk.past g.D.Disk.now g.met.D.Disk.present p.entries.items p.places.items p.vault c.self.inside.opened p.disk c.args.self c.self.invariant.0 (c.self.invariant.1 told) c.self.view_is

pub returns-clause-stamps : goal.returns-clause-stamps
returns-clause-stamps g c = λ told.
    let p = c.self.inside.parts in
    seen_none_above g.D.Disk.time g.D.Disk.past g.D.Disk.now g.met.D.Disk.present p.entries.items p.vault c.self.inside.opened p.disk c.args.self (c.self.invariant.2 told) c.self.view_is

pub returns-clause-histories : goal.returns-clause-histories
returns-clause-histories g c = λ told.
    let p = c.self.inside.parts in
    seen_histories g.D.Disk.time g.D.Disk.past g.D.Disk.now g.met.D.Disk.present p.entries.items p.places.items p.vault c.self.inside.opened p.disk c.args.self c.self.invariant.0 (c.self.invariant.1 told) (c.self.invariant.2 told) c.self.view_is

use Rattle.hx_history_laws.specs.EventRuns.{place_read}
use Rattle.hx_history.proofs.parts.Parts.pair_at.Goals as goal

pub returns : goal.returns
returns g c = place_read c.args.self.now.places.items c.args.place c.index.result.now c.requires c.index.ensures

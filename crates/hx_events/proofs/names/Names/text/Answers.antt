-- The names are distinct, so the text is found at its own number.
use Rattle.std.proofs.Common.{subst}
use Rattle.hx_events.specs.Places.{IsDistinct}
use Rattle.hx_events.proofs.ReadingLemmas.{place_found}
use Rattle.hx_events.proofs.names.Names.text.Goals as goal

pub returns-clause-found : goal.returns-clause-found
returns-clause-found c = place_found c.args.self.now c.args.res c.text_at.result.now c.text_at.ensures (subst IsDistinct c.self.view_is c.self.invariant.1) c.requires

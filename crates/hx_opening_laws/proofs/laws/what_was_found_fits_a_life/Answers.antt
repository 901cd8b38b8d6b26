use Rattle.hx_opening_laws.specs.Laws.{findings_fit_a_life}
use Rattle.hx_opening_laws.proofs.laws.what_was_found_fits_a_life.Goals as goal

pub returns : goal.returns
returns c = findings_fit_a_life

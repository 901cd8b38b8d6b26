use Rattle.hx_resource_laws.specs.Laws.{fits_stay, rows_agree, first_fits}
use Rattle.hx_resource_laws.proofs.what_is_kept_fits.Goals as goal

pub returns-clause-fits : goal.returns-clause-fits
returns-clause-fits c = fits_stay

pub returns-clause-rows : goal.returns-clause-rows
returns-clause-rows c = rows_agree

pub returns-clause-first : goal.returns-clause-first
returns-clause-first c = first_fits

use Rattle.hx_passes.proofs.Newest.{places_agree, beginnings_agree}
use Rattle.hx_passes.proofs.laws.a_history_reads_from_either_end.Goals as goal

pub returns-clause-places : goal.returns-clause-places
returns-clause-places c = places_agree

pub returns-clause-beginnings : goal.returns-clause-beginnings
returns-clause-beginnings c = beginnings_agree

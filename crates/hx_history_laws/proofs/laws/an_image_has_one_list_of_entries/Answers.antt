use Rattle.hx_history_laws.specs.OneList.{one_list}
use Rattle.hx_history_laws.proofs.laws.an_image_has_one_list_of_entries.Goals as goal

pub returns : goal.returns
returns c = one_list

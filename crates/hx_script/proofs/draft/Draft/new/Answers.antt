use Rattle.hx_script.proofs.DraftSteps.{new_is_well}
use Rattle.hx_script.proofs.draft.Draft.new.Goals as goal

pub invariant_of-result : goal.invariant_of-result
invariant_of-result c = new_is_well _ _ _ _ c.new.ensures c.in_ok-base.ensures c.new-2.ensures.items

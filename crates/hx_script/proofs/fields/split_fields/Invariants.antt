-- the fields so far, and as many of those that are left as may come
use Rattle.std.proofs.Common.{◌≡◌, ◌++◌, ◌-◌, ◌≤◌, length, take}
use Rattle.hx_events.specs.Fields.{fields_of}
use Rattle.hx_script.specs.Lines.{texts}
use Rattle.hx_script.proofs.fields.split_fields.Given as goal

abbrev pub invariant-fields : goal.invariant-fields
invariant-fields l = (length l.fields.items ≤ l.most) × (texts l.fields.items ++ take (l.most - length l.fields.items) (fields_of l.rest) ≡ take l.most (fields_of l.line))

abbrev pub decreases-fields : goal.decreases-fields
decreases-fields l = length l.rest

-- the fields so far stand there, each behind its blank
use Rattle.std.proofs.Common.{◌≡◌, ◌++◌, map, drop}
use Rattle.hx_events.specs.Texts.{spaced}
use Rattle.hx_events.proofs.texts.put_fields.Given as goal

abbrev pub invariant-loop-field : goal.invariant-loop-field
invariant-loop-field l = l.out.items ++ spaced (map (λ f. f.now) (drop l.field-index l.fields)) ≡ l.fn.out.items ++ spaced (map (λ f. f.now) l.fields)

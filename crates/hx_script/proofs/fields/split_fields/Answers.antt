use Rattle.std.proofs.Common.{arith}
use Rattle.hx_script.proofs.Cuts.{field_more, last_field}
use Rattle.hx_script.proofs.fields.split_fields.Goals as goal

pub returns-in_default : goal.returns-in_default
returns-in_default c = last_field c.args.most c.fields.fields.items c.push.new.self.items c.fields.rest _ (omega (arith, c.fields-test.true, c.len.ensures, c.fields.fields.ok.0)) c.in_default.ensures.none c.in_ok-push.ensures.items c.fields.invariant.1

pub fields-preserved : goal.fields-preserved
fields-preserved c = field_more c.args.most c.fields.fields.items c.push-in-fields.new.self.items c.in-Some.field c.fields.rest.now c.in-Some.behind.now _ (omega (arith, c.fields-test.true, c.len.ensures, c.fields.fields.ok.0)) c.in-Some.ensures.found c.in_ok-push-2.ensures.items c.fields.invariant.1

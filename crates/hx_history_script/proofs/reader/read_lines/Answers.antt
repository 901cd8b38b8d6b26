use Rattle.std.proofs.Common.{arith, ◌<◌, ◌+◌, ◌≤◌, length, ◌∙◌, sym}
use Rattle.std.proofs.lemmas.Bool.Decides.{nat_tests}
use Rattle.hx_script.specs.LineLaws.{line_taken, line_refused, line_unended, told, told_at, taken, fields_say}
use Rattle.hx_history_script.specs.Scripts.{fields_in, line_in, lines_at_end}
use Rattle.hx_history_script.proofs.FieldSteps.{enough}
use Rattle.hx_history_script.proofs.reader.read_lines.Goals as goal

pub returns-in_default-clause-bad : goal.returns-in_default-clause-bad
returns-in_default-clause-bad c = λ line why is.
    let some : 0 < length c.lines.rest.now = grind (arith, nat_tests, c.lines-test.ensures) in
    told c.lines.number line _ why _ is (sym c.lines.invariant.same ∙ line_unended line_in lines_at_end c.lines.number c.lines.reader c.lines.rest.now c.in_default.ensures.none some)

pub returns-in-Err-clause-bad : goal.returns-in-Err-clause-bad
returns-in-Err-clause-bad c = λ line why is.
    let fields = fields_say (fields_in c.lines.number c.lines.reader) 4 c.in-Some.line.now c.deref.result.now c.split_fields.new.fields.items (enough c.lines.number c.lines.reader) c.deref.ensures.value c.in_ok-split_fields.ensures in
    told_at c.take.result c.in-Err.error c.at.result c.lines.number line why c.take.new.self _ _ c.in-Err.is c.at.ensures is c.take.ensures
    (λ w bad. sym c.lines.invariant.same ∙ line_refused line_in lines_at_end c.lines.number c.lines.reader w c.lines.rest.now c.in-Some.line.now c.in-Some.behind.now c.in-Some.ensures.found (sym fields ∙ bad))

pub lines-preserved : goal.lines-preserved
lines-preserved c =
    let fields = fields_say (fields_in c.lines.number c.lines.reader) 4 c.in-Some.line.now c.deref.result.now c.split_fields.new.fields.items (enough c.lines.number c.lines.reader) c.deref.ensures.value c.in_ok-split_fields.ensures in
    let read = taken c.take.result c.in_default-take.field-0 c.take.new.self _ c.in_default-take.is c.take.ensures in
    let fewer : length c.in-Some.behind.now < length c.lines.rest.now = c.in-Some.ensures.shorter in
    let so_far : c.lines.number + length c.lines.rest.now ≤ 2 + length c.args.bytes.now = c.lines.invariant.left in record {
      same = line_taken line_in lines_at_end c.lines.number c.lines.reader c.take.new.self c.lines.rest.now c.in-Some.line.now c.in-Some.behind.now c.in-Some.ensures.found (sym fields ∙ read) ∙ c.lines.invariant.same;
      left = omega (arith, fewer, so_far);
    }

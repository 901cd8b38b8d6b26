use Rattle.std.proofs.Common.{◌≡◌, ◌≤◌, ◌+◌, ◌*◌, length, rules, subst, sym, Some}
use Rattle.std.specs.Prelude.{All}
use Rattle.serde_json.specs.Read as json
use Rattle.serde_json.specs.Written.{compact_text}
use Rattle.hx_meta.specs.Metas.{IsPrintable, StatFits, object_of}
use Rattle.hx_meta.proofs.Lines.{printable_object, length_object, printable_is_utf8}
use Rattle.hx_meta.proofs.Objects.{reads_back, shallow}
use Rattle.hx_meta.proofs.object.written.Goals as goal

pub returns-clause-printable : goal.returns-clause-printable
returns-clause-printable c =
    let fits : StatFits c.args.base = search rules in
    let is_text : c.into_bytes.result.items ≡ compact_text (object_of c.args.base c.args.type_id.now) = search rules in
    subst (All IsPrintable) (sym is_text) (printable_object c.args.base c.args.type_id.now fits c.requires)

pub returns-clause-short : goal.returns-clause-short
returns-clause-short c =
    let fits : StatFits c.args.base = search rules in
    let is_text : c.into_bytes.result.items ≡ compact_text (object_of c.args.base c.args.type_id.now) = search rules in
    subst (λ (text : _). length text ≤ 200 + 2 * length c.args.type_id.now) (sym is_text)
    (length_object c.args.base c.args.type_id.now fits c.requires)

pub returns-clause-read_back : goal.returns-clause-read_back
returns-clause-read_back c =
    let fits : StatFits c.args.base = search rules in
    let is_text : c.into_bytes.result.items ≡ compact_text (object_of c.args.base c.args.type_id.now) = search rules in
    let reads : json.read c.into_bytes.result.items ≡ Some (object_of c.args.base c.args.type_id.now) = search (rules, shallow) in
    reads_back c.args.base c.args.type_id.now c.into_bytes.result.items
    (printable_is_utf8 c.into_bytes.result.items
    (subst (All IsPrintable) (sym is_text) (printable_object c.args.base c.args.type_id.now fits c.requires)))
    reads

use Rattle.std.proofs.Common.{◌≡◌, ◌∷◌, ◌++◌, [], Some, length, ◌≤◌, rules}
use Rattle.std.specs.Prelude.{All}
use Rattle.hx_meta.specs.Metas.{IsPrintable, meta_in}
use Rattle.hx_record.proofs.ReadBack.{line_reads_back, ok_reads}
use Rattle.hx_record.proofs.writing.preamble.Goals as goal

pub returns-clause-read_back : goal.returns-clause-read_back
returns-clause-read_back c = λ form content short.
    let resource = c.args.resource.now in
    let meta = c.deref.result.now in
    let printable : All IsPrintable meta = search rules in
    let few : length meta ≤ 200 = search rules in
    let reads : meta_in meta ≡ Some (record { base = c.args.base; type_id = [] }) = search rules in
    ok_reads (λ (bytes : _). bytes.items) form content (record { resource = resource; base = c.args.base; content = content }) (resource ++ 32 ∷ (meta ++ 10 ∷ [])) c.line_of.result
    (line_reads_back form resource meta content c.args.base c.requires printable few reads short)
    c.line_of.ensures

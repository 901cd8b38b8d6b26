use Rattle.std.proofs.Common.{◌+◌, refl, subst}
use Rattle.std.proofs.lemmas.List.{take_rest}
use Rattle.memchr.specs.Find.{IsFirstByte, is_byte as passes}
use Rattle.hx_script.proofs.Cuts.{cut_found, cut_none}
use Rattle.hx_script.proofs.fields.cut_at.Goals as goal

pub returns-in-Some-clause-found : goal.returns-in-Some-clause-found
returns-in-Some-clause-found c =
    let bytes = c.args.bytes.now in
    cut_found c.args.wanted bytes _ _ c.in-Some.end (subst (IsFirstByte (passes c.args.wanted) bytes) c.in-Some.is c.memchr.ensures) refl (take_rest bytes (c.in-Some.end + 1))

pub returns-in-None-clause-none : goal.returns-in-None-clause-none
returns-in-None-clause-none c =
    cut_none c.args.wanted c.args.bytes.now (subst (IsFirstByte (passes c.args.wanted) c.args.bytes.now) c.in-None.is c.memchr.ensures)

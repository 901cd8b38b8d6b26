use Rattle.std.proofs.Common.{◌≡◌, ◌&&◌, not, rules, sym, ◌∙◌, ap}
use Rattle.hx_etag.specs.Conflicts.{conflict}
use Rattle.hx_etag.proofs.Numerals.{modified_since_is}
use Rattle.hx_etag.proofs.conflict.conflicts.Goals as goal

pub returns-then-base-found-clause-by_etags : goal.returns-then-base-found-clause-by_etags
returns-then-base-found-clause-by_etags c =
    let exact : not c.same_digits.result ≡ (not c.args.overwrite && conflict c.args.base c.args.found) = search rules in
    exact ∙ ap (λ changed. not c.args.overwrite && changed) (sym (modified_since_is c.args.base c.args.found))

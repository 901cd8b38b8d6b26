use Rattle.std.proofs.Common.{rules, ◌≡◌, ◌++◌, ◌∷◌, [], ◌∙◌, codes, decimal}
use Rattle.hx_events.specs.Texts.{spaced, found_fields, text_field}
use Rattle.hx_report.proofs.Texts.{found_line}
use Rattle.hx_report.proofs.pair_lines.put_found.Goals as goal

pub returns : goal.returns
returns c =
    let out = c.args.out.now.items in
    let backup = c.args.backup.now in
    let put : c.push.new.self.items ≡ ((((((out ++ codes "pair") ++ spaced (decimal c.args.number ∷ [])) ++ codes " restored") ++ spaced (backup.resource ∷ [])) ++ spaced (found_fields backup.base)) ++ spaced (text_field backup.content ∷ [])) ++ 10 ∷ [] = search rules in
    put ∙ found_line out (decimal c.args.number) backup.resource (text_field backup.content) (found_fields backup.base)

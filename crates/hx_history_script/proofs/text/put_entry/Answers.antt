use Rattle.std.proofs.Common.{rules, ◌≡◌, ◌++◌, ◌∷◌, [], ◌∙◌, codes, decimal}
use Rattle.hx_events.specs.Texts.{spaced, text_field}
use Rattle.hx_history_script.proofs.Texts.{entry_put}
use Rattle.hx_history_script.proofs.text.put_entry.Goals as goal

pub returns : goal.returns
returns c =
    let out = c.args.out.now.items in
    let e = c.args.entry.now in
    let put : c.push.new.self.items ≡ ((((out ++ codes "entry") ++ spaced (decimal e.number ∷ [])) ++ spaced (decimal e.moment ∷ [])) ++ spaced (text_field e.content ∷ [])) ++ 10 ∷ [] = search rules in
    put ∙ entry_put out (decimal e.number) (decimal e.moment) (text_field e.content)

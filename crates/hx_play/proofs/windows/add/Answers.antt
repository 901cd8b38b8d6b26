use Rattle.std.proofs.Common.{rules, ◌∙◌, ◌++◌, ◌∷◌, [], ◌<◌, ◌≤◌, arith, ap, sym, length, map}
use Rattle.std.proofs.lemmas.List.{length-map}
use Rattle.hx_play.proofs.Commands.{unwritten_past, written}
use Rattle.hx_play.proofs.windows.add.Goals as goal

pub returns-in_ok-push-clause-added : goal.returns-in_ok-push-clause-added
returns-in_ok-push-clause-added c =
    let below : c.args.number < length c.args.scripts.now.items = search rules in
    written (λ s. s.items) c.args.number c.args.command c.args.scripts.now.items c.push.new.self c.in-Some.script.now below
    (c.in_ok-push.ensures.items ∙ ap (λ s. s.items ++ c.args.command ∷ []) c.in-Some.ensures.value)

pub returns-in_default-clause-added : goal.returns-in_default-clause-added
returns-in_default-clause-added c =
    let past : length c.args.scripts.now.items ≤ c.args.number = search rules in
    sym (unwritten_past c.args.number c.args.command (map (λ s. s.items) c.args.scripts.now.items) (omega (arith, past, length-map c.args.scripts.now.items (λ s. s.items))))

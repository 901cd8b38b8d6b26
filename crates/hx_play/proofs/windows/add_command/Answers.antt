use Rattle.std.proofs.Common.{rules, ◌≡◌, ◌∙◌, ◌++◌, ◌∷◌, [], ℕ, OnOk, ap, map, refl, sym, subst}
use Rattle.hx_events.specs.declared.event.Actor.{Actor}
use Rattle.hx_events.specs.declared.event.Actor.TheVariants.{Window}
use Rattle.hx_events.specs.declared.event.Event.TheVariants.{Act}
use Rattle.hx_script.specs.declared.script.Step.TheVariants.{Do}
use Rattle.hx_play.specs.Runs.{scripts_of, with_command}
use Rattle.hx_play.proofs.Commands.{actor_stays, command_added, on_ok}
use Rattle.hx_play.proofs.windows.add_command.Goals as goal

pub returns-in-Window-clause-added : goal.returns-in-Window-clause-added
returns-in-Window-clause-added c = λ before parted.
    let same : c.from.result ≡ c.in-Window.number = search rules in
    subst (λ (a : Actor). OnOk c.add.result (map (λ s. s.items) c.add.new.scripts.items ≡ scripts_of (before ++ Do a (Act c.args.command) ∷ []))) (sym c.in-Window.is)
    (on_ok c.add.result _ _
    (λ added. added ∙ ap (with_command c.from.result c.args.command) parted ∙ command_added c.from.result c.args.command before ∙ ap (λ (n : ℕ). scripts_of (before ++ Do (Window n) (Act c.args.command) ∷ [])) same)
    c.add.ensures.added)

pub returns-in_default : goal.returns-in_default
returns-in_default c = record { added = λ before parted. parted ∙ actor_stays before c.args.actor c.args.command c.in_default.not-Window; all = refl }

use Rattle.std.proofs.Common.{◌++◌, List, sym, ◌∙◌, arith, ap, subst}
use Rattle.std.specs.Vec.Iter.{into_iter_items}
use Rattle.hx_events.specs.declared.event.Command.{Command}
use Rattle.hx_events.specs.declared.event.Event.TheVariants.{Act}
use Rattle.hx_lives.specs.Course.{opening}
use Rattle.hx_passes.specs.declared.rule.Known.{Known}
use Rattle.hx_rules.specs.Interleavings.{is_some_window}
use Rattle.hx_actors.specs.Work.{events}
use Rattle.hx_actors.specs.Pieces.{IsSoundBy, Keeps, events_in}
use Rattle.hx_actors.proofs.Steps.{made_events, made_in_order, made_keeps, named_next, sound_begun, whole_next, window_stands}
use Rattle.hx_actors.proofs.pieces.commands.Goals as goal

pub act-requires : goal.act-requires
act-requires g c = (named_next g.J.Naming.life.names c.in-Some.command (into_iter_items c.next.new.self) (into_iter_items c.loop-command.command-iterator) c.in-Some.ensures.steps.0 c.loop-command.invariant.named).0

pub returns-in_err-act-clause-keeps : goal.returns-in_err-act-clause-keeps
returns-in_err-act-clause-keeps g c = subst (λ (p : Known). Keeps c.args.pass.now p) (sym c.in_err-act.ensures.err) c.loop-command.invariant.keeps

pub returns-in_err-act-clause-sound : goal.returns-in_err-act-clause-sound
returns-in_err-act-clause-sound g c = subst (λ (p : Known). IsSoundBy c.args.script.items p) (sym c.in_err-act.ensures.err) (sound_begun c.args.script.items (into_iter_items c.loop-command.command-iterator) c.loop-command.pass c.loop-command.invariant.order c.loop-command.invariant.whole)

pub loop-command-preserved : goal.loop-command-preserved
loop-command-preserved g c =
    let made = c.in_ok-act.ensures.makes in
    let place = c.in_ok-act.field-0.place in
    let outcome = c.in_ok-act.field-0.outcome in
    let i = c.loop-command.invariant in
    let step = c.in-Some.ensures.steps in
    let command = c.in-Some.command in
    let rest = into_iter_items c.next.new.self in
    let o = opening g.J.Naming.life in
    let old : Known = c.loop-command.pass in
    let new : Known = c.act.new.pass in
    record {
      keeps = made_keeps o (Act command) place outcome c.args.pass.now old new made i.keeps;
      order = made_in_order o (Act command) place outcome old new made (window_stands old.actor (Act command) outcome (ap is_some_window i.keeps.actor ∙ c.requires.window)) i.order;
      whole = whole_next (events_in c.args.script.items) command rest (events old.calls) (i.whole ∙ ap (λ (xs : List Command). events_in xs ++ events old.calls) step.0) ∙ ap (λ evs. events_in rest ++ evs) (sym (made_events o (Act command) place outcome old new made));
      named = (named_next g.J.Naming.life.names command rest (into_iter_items c.loop-command.command-iterator) step.0 i.named).1;
      count = omega (arith, i.count, step.1);
    }

use Rattle.std.proofs.Common.{◌≤◌, length, sym, ◌∙◌, subst}
use Rattle.std.specs.Prelude.{All}
use Rattle.hx_script.specs.Traces.{IsWellRead}
use Rattle.hx_script.proofs.TraceSteps.{begun_sound, more_few, all_well}
use Rattle.hx_script.proofs.trace_reader.TraceReader.begin_life.Goals as goal

pub invariant_of-self : goal.invariant_of-self
invariant_of-self c =
    let r = c.self.inside in
    let few = more_few r.lives.items c.push.new.self.items c.replace-part.result r.part c.finish-life.result r.draft c.args.self.now c.requires c.self.view_is c.replace-part.ensures.value (sym c.is_begun.ensures ∙ c.if-is_begun.true) c.in_ok-push.ensures.items in
    begun_sound c.push.new.self.items c.replace-part.new.dest c.replace.new.dest c.in_ok-draft.draft c.replace-part.ensures.after c.replace.ensures.after c.in_ok-draft.ensures few
    (all_well r.lives.items c.push.new.self.items c.finish-life.result c.in_ok-push.ensures.items c.self.invariant.over c.finish-life.ensures.well_read)

pub invariant_of-self-in_err-push : goal.invariant_of-self-in_err-push
invariant_of-self-in_err-push c =
    let r = c.self.inside in
    let same = c.in_err-push.ensures.items in
    begun_sound c.push.new.self.items c.replace-part.new.dest c.replace.new.dest c.in_ok-draft.draft c.replace-part.ensures.after c.replace.ensures.after c.in_ok-draft.ensures
    (subst (λ lives. length lives ≤ 31) (sym same) c.self.invariant.few) (subst (All IsWellRead) (sym same) c.self.invariant.over)

pub invariant_of-self-else-is_begun : goal.invariant_of-self-else-is_begun
invariant_of-self-else-is_begun c =
    begun_sound c.self.inside.lives.items c.replace-part.new.dest c.replace.new.dest c.in_ok-draft.draft c.replace-part.ensures.after c.replace.ensures.after c.in_ok-draft.ensures c.self.invariant.few c.self.invariant.over

use Rattle.std.proofs.Common.{rules, ◌≡◌, ◌<◌, ◌-◌, ◌^◌, Bool, true, false, ap, refl}
use Rattle.std.proofs.lemmas.Bool.{false≢true}
use Rattle.hx_history.specs.declared.history.Added.{Added}
use Rattle.hx_history.specs.declared.history.Added.TheVariants.{Refused}
use Rattle.hx_history_laws.specs.Saves.{left_none_above, left_histories, seen_still}
use Rattle.hx_history_laws.specs.Stamps.{since_then}
use Rattle.hx_history.proofs.history.History.add.Goals as goal

abbrev is_refused : {D : Type 0} → Added D → Bool
is_refused (Refused h why) = true
is_refused _ = false

pub returns-in-Err-Fault-clause-refused : goal.returns-in-Err-Fault-clause-refused
returns-in-Err-Fault-clause-refused g c = λ h why is. absurd (false≢true (ap is_refused is))

pub returns-then-content-gt-CONTENT_MAX-clause-is_too_large : goal.returns-then-content-gt-CONTENT_MAX-clause-is_too_large
returns-then-content-gt-CONTENT_MAX-clause-is_too_large g c = λ large. (_, refl)

pub returns-then-content-gt-CONTENT_MAX-clause-moments_refused : goal.returns-then-content-gt-CONTENT_MAX-clause-moments_refused
returns-then-content-gt-CONTENT_MAX-clause-moments_refused g c = λ told h why is.
    let p = c.self.inside.parts in
    seen_still g.D.Disk.time g.D.Disk.past g.D.Disk.now g.met.D.Disk.present p.entries.items p.places.items p.vault c.self.inside.opened p.disk (record { moment = c.args.moment; content = c.args.content.now }) c.args.self h c.self.invariant.0 (c.self.invariant.1 told) c.self.view_is cc

pub returns-then-is_spent-clause-is_spent : goal.returns-then-is_spent-clause-is_spent
returns-then-is_spent-clause-is_spent g c = λ small spent. (_, refl)

pub returns-then-is_spent-clause-moments_refused : goal.returns-then-is_spent-clause-moments_refused
returns-then-is_spent-clause-moments_refused g c = λ told h why is.
    let p = c.self.inside.parts in
    seen_still g.D.Disk.time g.D.Disk.past g.D.Disk.now g.met.D.Disk.present p.entries.items p.places.items p.vault c.self.inside.opened p.disk (record { moment = c.args.moment; content = c.args.content.now }) c.args.self h c.self.invariant.0 (c.self.invariant.1 told) c.self.view_is cc

pub invariant_of-result-in-Ok-true : goal.invariant_of-result-in-Ok-true
invariant_of-result-in-Ok-true g c = (c.in-Ok-true.ensures.orderly, c.in-Ok-true.ensures.kept, λ told. since_then g.D.Disk.time g.D.Disk.past g.D.Disk.now c.self.inside.opened _ c.self.inside.parts.vault c.save.new.self.vault c.self.inside.parts.disk c.save.new.self.disk (c.self.invariant.2 told) (c.save.ensures.moments told) (c.save.ensures.stamps told))

pub invariant_of-result-in-Ok-false : goal.invariant_of-result-in-Ok-false
invariant_of-result-in-Ok-false g c = (c.in-Ok-false.ensures.orderly, c.in-Ok-false.ensures.kept, λ told. since_then g.D.Disk.time g.D.Disk.past g.D.Disk.now c.self.inside.opened _ c.self.inside.parts.vault c.save.new.self.vault c.self.inside.parts.disk c.save.new.self.disk (c.self.invariant.2 told) (c.save.ensures.moments told) (c.save.ensures.stamps told))

pub invariant_of-result-in-Err-NoMemory : goal.invariant_of-result-in-Err-NoMemory
invariant_of-result-in-Err-NoMemory g c = (
  c.in-Err-NoMemory.ensures.orderly_left (search rules),
  λ told. c.in-Err-NoMemory.ensures.kept_left told (search rules),
  λ told. since_then g.D.Disk.time g.D.Disk.past g.D.Disk.now c.self.inside.opened _ c.self.inside.parts.vault c.save.new.self.vault c.self.inside.parts.disk c.save.new.self.disk (c.self.invariant.2 told) (c.save.ensures.moments told) (c.save.ensures.stamps told),
)

pub returns-in-Err-Fault-clause-stamps_faulted : goal.returns-in-Err-Fault-clause-stamps_faulted
returns-in-Err-Fault-clause-stamps_faulted g c = λ told back is.
    let p = c.self.inside.parts in
    let handed : c.into_disk.result ≡ back = cc in
    left_none_above g.D.Disk.time g.D.Disk.past g.D.Disk.now g.met.D.Disk.present p.entries.items p.vault c.save.new.self.vault c.self.inside.opened p.disk c.save.new.self.disk c.into_disk.result back c.args.self (c.self.invariant.2 told) (c.save.ensures.stamps told) c.self.view_is c.into_disk.ensures handed c.save.ensures.stamp

pub returns-in-Err-Fault-clause-histories_faulted : goal.returns-in-Err-Fault-clause-histories_faulted
returns-in-Err-Fault-clause-histories_faulted g c = λ told back is.
    let p = c.self.inside.parts in
    let handed : c.into_disk.result ≡ back = cc in
    let unspent : p.vault.stamp < 2 ^ 64 - 1 = search rules in
    left_histories g.D.Disk.time g.D.Disk.past g.D.Disk.now g.met.D.Disk.present p.entries.items p.vault c.save.new.self.vault c.self.inside.opened p.disk c.save.new.self.disk c.into_disk.result back c.args.self (c.self.invariant.2 told) (c.save.ensures.stamps told) c.self.view_is c.into_disk.ensures handed
    _ _ unspent c.save.ensures.stamp (c.save.ensures.moments told)

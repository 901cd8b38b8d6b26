-- The Closer has few stages to do of one resource.
use Rattle.std.specs.Prelude.{◌≡◌, ◌≤◌, ℕ, ◌==◌, Bool, true, false, List, Option, Some, None, refl}
use Rattle.std.proofs.Common.{arith}
use Rattle.hx_events.specs.declared.backup.Backup.{Backup}
use Rattle.hx_rules.specs.declared.saves.QueuedSave.{QueuedSave}
use Rattle.hx_rules.specs.declared.saves.Running.{Running}
use Rattle.hx_rules.specs.Entries.{Deed}
use Rattle.hx_rules.specs.Versions.{last_version}
use Rattle.hx_rules.specs.Copies.{dirty}
use Rattle.hx_rules.specs.Saves.{running, queued, save_steps}
use Rattle.hx_rules.specs.Backups.{Begun, begun, halted, backed, opened, faded, safe}
use Rattle.hx_lives.specs.Calls.{stages_at_most}
use Rattle.hx_closing_laws.specs.Left.{queue_left, begun_left, after_left, left_by, stages_left}
use Rattle.hx_closing_laws.specs.SavesFall.{run_few, wait_few, vault_few}
use Rattle.hx_closing_laws.specs.VaultFalls.{few_blocks}

-- There are no more than that, if what is begun isn't longer than a content may be.
abbrev pub StagesAreFew : Type 0
StagesAreFew = (restored : Option Backup) (guarded : Bool) (ds : List Deed) → ((b : Begun) → begun restored guarded ds ≡ Some b → b.size ≤ 524288) → stages_left restored guarded ds ≤ stages_at_most guarded

queue_few : (q : Option QueuedSave) → queue_left q ≤ 2
queue_few None = omega arith
queue_few (Some q) = omega arith

after_few : (q : Option QueuedSave) (is_last : Bool) → after_left q is_last ≤ 132
after_few (Some q) is_last = omega arith
after_few None true = omega arith
after_few None false = omega arith

begun_few : (b : Option Begun) → ((x : Begun) → b ≡ Some x → x.size ≤ 524288) → begun_left b ≤ 129
begun_few None small = omega arith
begun_few (Some x) small = omega (arith, few_blocks x.size (small x refl))

few : (run : Option Running) (g : Bool) (q : Option QueuedSave) (b : Option Begun) (h d k o f : Bool) (s : ℕ → Bool) (last : ℕ) → begun_left b ≤ 129 → left_by run g q b h d k o f s last ≤ stages_at_most g
few None true q b h d k o f s last small = omega (arith, small, vault_few h b d k o f last)
few None false q b h d k o f s last small = omega (arith, small, vault_few h b d k o f last)
few (Some run) true q b h d k o f s last small = omega (arith, small, run_few (Some run), queue_few q, wait_few h b k (s run.version) run.version last, after_few q (run.version == last))
few (Some run) false q b h d k o f s last small = omega (arith, small, run_few (Some run), queue_few q)

pub stages_are_few : StagesAreFew
unfolding stages_left
stages_are_few restored guarded ds small =
    few (running (save_steps restored ds)) guarded (queued (save_steps restored ds)) (begun restored guarded ds) (halted ds) (dirty restored ds) (backed restored ds) (opened restored ds) (faded ds) (λ v. safe v ds) (last_version restored ds) (begun_few (begun restored guarded ds) small)

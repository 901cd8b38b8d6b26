use Rattle.std.proofs.Common.{rules, ◌≡◌, arith}
use Rattle.hx_history_laws.specs.Entries.{backup_of_entry}
use Rattle.hx_history.proofs.opening.entry_of.Goals as goal

pub returns-clause-some : goal.returns-clause-some
returns-clause-some c =
    let is : c.args.backup.now ≡ backup_of_entry (record { number = c.in_ok-number.number; moment = c.in_ok-base.base.mtime; content = c.args.backup.now.content }) = search rules in
    (is, omega arith, omega arith)

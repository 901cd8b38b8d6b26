-- The lines of the tickets so far stand there.
use Rattle.std.proofs.Common.{◌≡◌, ◌++◌, drop}
use Rattle.hx_report.specs.Outlines.{tickets_text}
use Rattle.hx_report.proofs.tail_lines.put_tickets.Given as goal

abbrev pub invariant-loop-ticket : goal.invariant-loop-ticket
invariant-loop-ticket l = l.out.items ++ tickets_text l.outlines (drop l.ticket-index l.tickets) ≡ l.fn.out.items ++ tickets_text l.outlines l.tickets

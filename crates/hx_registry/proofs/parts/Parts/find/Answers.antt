use Rattle.std.proofs.Common.{rules}
use Rattle.hx_registry.specs.Users.{room_for, same_on_err}
use Rattle.hx_registry.proofs.parts.Parts.find.Goals as goal

pub returns-in_ok-reserve-in-Ok-Some-clause-room : goal.returns-in_ok-reserve-in-Ok-Some-clause-room
returns-in_ok-reserve-in-Ok-Some-clause-room g c = room_for c.read_content.result _ c.args.event.now c.reserve.new.self.core c.in_ok-reserve-in-Ok-Some.ensures.room c.read_content.ensures.size

pub returns-in_ok-reserve-in-Ok-Some-clause-err : goal.returns-in_ok-reserve-in-Ok-Some-clause-err
returns-in_ok-reserve-in-Ok-Some-clause-err g c = same_on_err c.read_content.result _ (g.D.Disk.failures c.stat.new.self) _ c.read_content.ensures.err (search rules)

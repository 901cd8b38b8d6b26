use Rattle.hx_play.proofs.endings.crash_life.Goals as goal

pub returns-clause-ends : goal.returns-clause-ends
returns-clause-ends g c =
    let crashed = c.crash-disk.ensures in
    record { life = c.crash-disk.result.1; added = c.push.ensures; of_course = crashed.course; ended_so = crashed.ended; counted = crashed.counted; lived = crashed.lived }

-- What was read as a trace may be judged.
use Rattle.std.specs.Prelude.{◌<◌, ℕ, suc, All, List, [], ◌∷◌, length}
use Rattle.std.proofs.Common.{arith}
use Rattle.hx_events.specs.declared.life.Entry.{Entry}
use Rattle.hx_events.specs.Texts.{IsEntryOf}
use Rattle.hx_report.specs.Traces.{AreEntriesOf}
use Rattle.hx_script.specs.declared.trace.TraceLife.{TraceLife}
use Rattle.hx_script.specs.Traces.{IsWellRead}
use Rattle.hx_check.specs.Verdicts.{AreRead}

abbrev pub MayBeJudged : Type 0
MayBeJudged = (lives : List TraceLife) → All IsWellRead lives → AreRead lives

each_entry : (names : List (List ℕ)) (entries : List Entry) → All (IsEntryOf names) entries → AreEntriesOf names entries
each_entry names [] all = tt
each_entry names (e ∷ es) all = (all 0 e (omega arith), each_entry names es (λ k d lt. all (suc k) d (omega (arith, lt))))

pub may_be_judged : MayBeJudged
may_be_judged [] all = tt
may_be_judged (l ∷ lives) all =
    let read = all 0 l (omega arith) in (
      record { whole = each_entry l.life.names l.life.history read.history; first = read.first; tail = read.tail_line },
      may_be_judged lives (λ k d lt. all (suc k) d (omega (arith, lt))),
    )

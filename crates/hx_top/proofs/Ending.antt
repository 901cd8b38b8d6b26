-- What playing the lines of a local history says of how the run ended.
use Rattle.std.specs.Prelude.{◌≡◌, ◌≢◌, ◌≤◌, ℕ, Bool, IsTrue, List}
use Rattle.std.proofs.Common.{ap, sym, ◌∙◌, subst}
use Rattle.hx_disk.specs.File.{FileState}
use Rattle.hx_faults.specs.Faults.{Rose}
use Rattle.hx_history_laws.specs.Histories.{AreHistories}
use Rattle.hx_history_play.specs.Answered.{NeverFall, last_mark}
use Rattle.hx_history_play.specs.Playing.{IsPlayedOut, StopsEarly}
use Rattle.hx_history_play.specs.Steps.{first_below, rose_below}
use Rattle.hx_history_play.specs.declared.account.Halt.{Halt}
use Rattle.hx_history_play.specs.declared.account.Halt.TheVariants.{Done as ToTheEnd, OpenFault as ToAnOpening, NotHistory as ToNoHistory}
use Rattle.hx_history_script.specs.declared.script.HistoryLine.{HistoryLine}
use Rattle.hx_io.specs.Streams.{AddsFront, added}
use Rattle.hx_top.specs.Histories.{HasPlayedLines, halt_of}
use Rattle.hx_top.specs.declared.whole.End.{End}
use Rattle.hx_top.specs.declared.whole.End.TheVariants.{Done, WriteFault}

module _ (tells : Bool) (first count : ℕ) (before after : ℕ → FileState) (lines : List HistoryLine) (text taken now_taken marks : List ℕ) (halt : Halt) (end : End) (same : halt_of end ≡ halt) where
  so : (e : End) (h : Halt) → halt_of e ≡ h → end ≡ e → halt ≡ h
  so e h is_so is = sym same ∙ ap halt_of is ∙ is_so

  pub played_lines : (halt ≡ ToTheEnd → IsPlayedOut tells first before after lines text marks) → (halt ≢ ToTheEnd → StopsEarly tells first before after lines marks halt)
      → NeverFall first marks → last_mark first marks ≤ count → (halt ≡ ToAnOpening → Rose (last_mark first marks) count) → (halt ≡ ToNoHistory → IsTrue tells → AreHistories before → ⊥)
      → (end ≡ Done → added taken now_taken ≡ text) → (end ≡ WriteFault → AddsFront text taken now_taken) → HasPlayedLines tells first count before after lines taken now_taken end marks
  played_lines out early rises counted cause foreign done front = record {
    done = λ is. subst (λ (t : List ℕ). IsPlayedOut tells first before after lines t marks) (sym (done is)) (out (sym same ∙ ap halt_of is));
    in_part = λ is. record { text = text; out = out (sym same ∙ ap halt_of is); front = front is };
    early = λ undone. subst (λ (h : Halt). StopsEarly tells first before after lines marks h) (sym same) (early (λ at. undone (same ∙ at)));
    rises = rises;
    counted = counted;
    cause = λ is. cause (sym same ∙ ap halt_of is);
    foreign = λ is. foreign (sym same ∙ ap halt_of is);
  }

-- a count above the last mark is above the first count
pub above_first : (first count : ℕ) (marks : List ℕ) → NeverFall first marks → Rose (last_mark first marks) count → Rose first count
above_first first count marks rises rose = rose_below first (last_mark first marks) count (first_below first marks rises) rose

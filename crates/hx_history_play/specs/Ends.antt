-- Where playing ends.
use Rattle.std.specs.Prelude.{◌≡◌, ◌≢◌, ℕ, Bool, IsTrue, List, [], ◌∷◌, ◌++◌, length, reverse, refl}
use Rattle.std.proofs.Common.{sym, ◌∙◌, ap, subst, arith}
use Rattle.std.proofs.lemmas.List.{append-nil, append_assoc}
use Rattle.hx_disk.specs.File.{FileState, IsSound}
use Rattle.hx_lives.specs.Course.{Past}
use Rattle.hx_history_laws.specs.Having.{HaveEntries}
use Rattle.hx_history_laws.specs.Histories.{empty_vault}
use Rattle.hx_history_laws.specs.States.{HistoryState}
use Rattle.hx_history_script.specs.declared.answer.Answer.{Answer}
use Rattle.hx_history_script.specs.declared.script.HistoryLine.{HistoryLine}
use Rattle.hx_history_script.specs.Texts.{history_text}
use Rattle.hx_history_play.specs.declared.account.Halt.{Halt}
use Rattle.hx_history_play.specs.declared.account.Halt.TheVariants.{OpenFault, NotHistory, NoMemory}
use Rattle.hx_history_play.specs.Playing.{HasCome, Halts, IsOpen, IsPlayedOut, StopsEarly}
use Rattle.hx_history_play.specs.Steps.{stays, stops_first, stops_last}

pub behind_one : (done : List HistoryLine) (line : HistoryLine) (rest : List HistoryLine) → done ++ (line ∷ rest) ≡ (done ++ line ∷ []) ++ rest
behind_one done line rest = sym (append_assoc done (line ∷ []) rest)

pub none_left : (done rest : List HistoryLine) → length rest ≡ 0 → done ++ rest ≡ done
none_left done [] none = append-nil done
none_left done (line ∷ rest) none = absurd (omega (arith, none))

-- the lines that were yielded, with one more and the rest
pub all_with : (all done : List HistoryLine) (before after : List HistoryLine) (line : HistoryLine) → all ≡ done ++ before → before ≡ line ∷ after → all ≡ done ++ (line ∷ after)
all_with all done before after line is next = is ∙ ap (λ (l : List HistoryLine). done ++ l) next

module _ {D : Type 0} (tells : Bool) (time : D → ℕ) (past : D → Past) (now : D → ℕ → FileState) (failures : D → ℕ) (present : (d : D) (f : ℕ) → past d (time d) f ≡ now d f) (sound : (d : D) (t f : ℕ) → IsTrue tells → IsSound (past d t f)) (disk : D) where
  -- There was no room for the first mark.
  pub no_room_halts : (marks : List ℕ) (halt : Halt) (back : D) → marks ≡ [] → halt ≡ NoMemory → back ≡ disk → Halts tells time past now failures disk marks halt back
  no_room_halts marks halt back none memory same = subst (λ (ms : List ℕ). Halts tells time past now failures disk ms halt back) (sym none)
      (subst (λ (m : Halt). Halts tells time past now failures disk [] m back) (sym memory)
      (subst (λ (d : D). Halts tells time past now failures disk [] NoMemory d) (sym same) (record {
        rises = tt;
        counted = omega arith;
        cause = λ odd. absurd cc;
        foreign = λ odd. absurd cc;
        first = λ odd. absurd cc;
        runs = λ told. stays tells time past now failures present disk;
      })))

  pub no_room_early : (lines : List HistoryLine) (marks : List ℕ) (halt : Halt) (back : D) → marks ≡ [] → back ≡ disk → StopsEarly tells (failures disk) (now disk) (now back) lines marks halt
  no_room_early lines marks halt back none same = subst (λ (d : D). StopsEarly tells (failures disk) (now disk) (now d) lines marks halt) (sym same)
      (stops_first tells time past now failures present sound disk lines marks halt disk (record { none = refl; unmarked = none; empty = λ told empty. (empty_vault (now disk) empty).1 }))

  -- an end with the halt, the disk and the marks of a stop
  pub halts_as : (marks : List ℕ) (halt : Halt) (back : D) (same_marks : List ℕ) (same_halt : Halt) (same_back : D) → same_marks ≡ marks → same_halt ≡ halt → same_back ≡ back → Halts tells time past now failures disk marks halt back → Halts tells time past now failures disk same_marks same_halt same_back
  halts_as marks halt back same_marks same_halt same_back m h b is = subst (λ (ms : List ℕ). Halts tells time past now failures disk ms same_halt same_back) (sym m)
      (subst (λ (x : Halt). Halts tells time past now failures disk marks x same_back) (sym h)
      (subst (λ (d : D). Halts tells time past now failures disk marks halt d) (sym b) is))

  pub early_as : (lines : List HistoryLine) (marks : List ℕ) (halt : Halt) (back : D) (same_marks : List ℕ) (same_halt : Halt) (same_back : D) → same_marks ≡ marks → same_halt ≡ halt → same_back ≡ back → StopsEarly tells (failures disk) (now disk) (now back) lines marks halt → StopsEarly tells (failures disk) (now disk) (now same_back) lines same_marks same_halt
  early_as lines marks halt back same_marks same_halt same_back m h b is = subst (λ (ms : List ℕ). StopsEarly tells (failures disk) (now disk) (now same_back) lines ms same_halt) (sym m)
      (subst (λ (x : Halt). StopsEarly tells (failures disk) (now disk) (now same_back) lines marks x) (sym h)
      (subst (λ (d : D). StopsEarly tells (failures disk) (now disk) (now d) lines marks halt) (sym b) is))

  -- The end behind the last line.
  pub open_halts : (lines : List HistoryLine) (answers : List Answer) (marks : List ℕ) (h : HistoryState D) (halt : Halt) → (halt ≢ OpenFault) → (halt ≢ NotHistory) → IsOpen tells time past now failures disk lines answers marks h → Halts tells time past now failures disk marks halt h.disk
  open_halts lines answers marks h halt no_fault no_other is = record {
    rises = is.rises;
    counted = is.counted;
    cause = λ odd. absurd (no_fault odd);
    foreign = λ odd. absurd (no_other odd);
    first = λ odd. absurd (no_other odd);
    runs = is.runs;
  }

  pub played_out : (lines yielded : List HistoryLine) (answers : List Answer) (marks text same_marks : List ℕ) (h : HistoryState D) (back : D) → lines ≡ yielded → IsOpen tells time past now failures disk (reverse yielded) answers marks h → (IsTrue tells → HaveEntries h.entries (now h.disk)) → back ≡ h.disk → same_marks ≡ marks → text ≡ history_text answers h.entries
      → IsPlayedOut tells (failures disk) (now disk) (now back) lines text same_marks
  played_out lines yielded answers marks text same_marks h back all is have handed same text_is = record {
    answers = answers;
    entries = h.entries;
    come = subst (λ (ms : List ℕ). HasCome tells (failures disk) (now disk) (reverse lines) (reverse answers) ms h.entries) (sym same)
        (subst (λ (ls : List HistoryLine). HasCome tells (failures disk) (now disk) (reverse ls) (reverse answers) marks h.entries) (sym all) is.come);
    text_is = text_is;
    have = λ told. subst (λ (d : D). HaveEntries h.entries (now d)) (sym handed) (have told);
  }

  pub stops_printing : (lines yielded : List HistoryLine) (answers : List Answer) (marks : List ℕ) (h : HistoryState D) → lines ≡ yielded → IsOpen tells time past now failures disk (reverse yielded) answers marks h → (IsTrue tells → HaveEntries h.entries (now h.disk)) → StopsEarly tells (failures disk) (now disk) (now h.disk) lines marks NoMemory
  stops_printing lines yielded answers marks h all is have = subst (λ (ls : List HistoryLine). StopsEarly tells (failures disk) (now disk) (now h.disk) ls marks NoMemory) (sym all)
      (stops_last tells time past now failures present sound disk yielded answers marks h h.disk is have)

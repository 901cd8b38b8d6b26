-- How far playing has come, from one line to the next.
use Rattle.std.specs.Prelude.{◌≡◌, ◌≢◌, ◌≤◌, ◌<◌, ◌+◌, ◌^◌, ◌⊎◌, ℕ, Bool, true, false, cond, count_by, IsTrue, if◌then◌else◌, List, [], ◌∷◌, ◌++◌, reverse, refl}
use Rattle.std.proofs.Common.{sym, ◌∙◌, ap, subst, arith, inl, inr, ⊎_elim}
use Rattle.std.proofs.lemmas.List.Sums.{sum_by-cons}
use Rattle.std.proofs.lemmas.List.{append-nil, append_assoc, reverse-append}
use Rattle.std.proofs.Math.Path.{fun_ext}
use Rattle.hx_disk.specs.Disk.{ChangesNothing, Elapses, IsDiskImage}
use Rattle.hx_disk.specs.File.{FileState, IsSound}
use Rattle.hx_faults.specs.Faults.{Rose}
use Rattle.hx_lives.specs.Calls.{HasGoneOn}
use Rattle.hx_lives.specs.Course.{Past}
use Rattle.hx_lives.specs.Holds.{readings}
use Rattle.hx_history_laws.specs.declared.entry.HistoryEntry.{HistoryEntry}
use Rattle.hx_history_laws.specs.Having.{HaveEither, HaveEntries}
use Rattle.hx_history_laws.specs.Histories.{AreHistories, empty_vault}
use Rattle.hx_history_laws.specs.Kept.{Save, next}
use Rattle.hx_history_laws.specs.OneList.{one_list}
use Rattle.hx_history_laws.specs.PairRuns.{Moments, moments_now}
use Rattle.hx_history_laws.specs.Stamps.{AreOwn, NoneAbove, above_less}
use Rattle.hx_history_laws.specs.States.{HistoryState}
use Rattle.hx_history_script.specs.declared.answer.Answer.{Answer}
use Rattle.hx_history_script.specs.declared.answer.Answer.TheVariants.{FaultIn, FaultOut, Crashed}
use Rattle.hx_history_script.specs.declared.script.HistoryLine.{HistoryLine}
use Rattle.hx_history_script.specs.declared.script.HistoryLine.TheVariants.{Saved, Crash}
use Rattle.hx_history_play.specs.declared.account.Halt.{Halt}
use Rattle.hx_history_play.specs.declared.account.Halt.TheVariants.{NoMemory}
use Rattle.hx_history_play.specs.Answered.{HaveCome, IsAnswered, IsMarked, IsUsedUp, NeverFall, ends_with, fault_answer, is_save, last_mark, save_at, saves_in}
use Rattle.hx_history_play.specs.Files.{HaveNoNew, are_own, either_carried, entries_carried, histories_carried, once, readings_left, stamps_carried, synced_no_new, twice}
use Rattle.hx_history_play.specs.Playing.{HasCome, HasFaulted, HasNotOpened, HasOpened, Halts, IsAtOpening, IsClosed, IsOpen, IsUnopened, StopsAt, StopsEarly}
use Rattle.hx_history_play.specs.Saves.{answered_fault, few_more, kept_more}

-- ---- marks
pub last_behind : (first : ℕ) (front : List ℕ) (mark : ℕ) → last_mark first (front ++ mark ∷ []) ≡ mark
last_behind first [] mark = refl
last_behind first (m ∷ front) mark = last_behind m front mark

pub rises_behind : (first : ℕ) (front : List ℕ) (mark : ℕ) → NeverFall first front → last_mark first front ≤ mark → NeverFall first (front ++ mark ∷ [])
rises_behind first [] mark rises le = (le, tt)
rises_behind first (m ∷ front) mark rises le = (rises.0, rises_behind m front mark rises.1 le)

pub first_below : (first : ℕ) (marks : List ℕ) → NeverFall first marks → first ≤ last_mark first marks
first_below first [] rises = omega arith
first_below first (m ∷ marks) rises = let ih = first_below m marks rises.1 in let r = rises.0 in omega (arith, ih, r)

-- a count that rose is above each smaller one
pub rose_above : (low before now : ℕ) → low < 2 ^ 64 → low ≤ before → Rose before now → Rose low now
rose_above low before now small le rose = omega (arith, small, le, rose)

pub rose_below : (low before now : ℕ) → low ≤ before → Rose before now → Rose low now
rose_below low before now le rose = omega (arith, le, rose)

pub rose_later : (low before now : ℕ) → low < 2 ^ 64 → low ≤ before → Rose before now → low ≤ now
rose_later low before now small le rose = omega (arith, small, le, rose)

front_empty : (front behind : List ℕ) → front ++ behind ≡ [] → front ≡ []
front_empty [] behind none = refl
front_empty (m ∷ front) behind none = absurd cc

counted_save : (line : HistoryLine) (lines : List HistoryLine) → is_save line ≡ true → count_by is_save (line ∷ lines) ≡ count_by is_save lines + 1
counted_save (Saved moment content) lines is = let more = sum_by-cons (λ (l : HistoryLine). cond (is_save l) 1 0) (Saved moment content) lines in omega (arith, more)
counted_save (Crash pick) lines is = absurd cc

pub reversed : {A : Type 0} (xs : List A) (x : A) → reverse (xs ++ x ∷ []) ≡ x ∷ reverse xs
reversed xs x = reverse-append xs (x ∷ [])

module _ {D : Type 0} (tells : Bool) (time : D → ℕ) (past : D → Past) (now : D → ℕ → FileState) (failures : D → ℕ) (present : (d : D) (f : ℕ) → past d (time d) f ≡ now d f) where
  pub gone_on : (old mid new : D) → HasGoneOn time past failures old mid → HasGoneOn time past failures mid new → HasGoneOn time past failures old new
  gone_on old mid new first second = record {
    later = omega (arith, first.later, second.later);
    kept = λ t f le. second.kept t f (omega (arith, le, first.later)) ∙ first.kept t f le;
    no_fewer = omega (arith, first.no_fewer, second.no_fewer);
  }

  pub stays : (d : D) → HasGoneOn time past failures d d
  stays d = record { later = omega arith; kept = λ t f le. refl; no_fewer = omega arith }

  pub gone_by : (P : (ℕ → FileState) → Type 0) (old new : D) → Moments time past P old new → failures old ≤ failures new → HasGoneOn time past failures old new
  gone_by P old new m more = record { later = m.later; kept = m.kept; no_fewer = more }

  pub gone_by_count : (P : (ℕ → FileState) → Type 0) (old mid new : D) → HasGoneOn time past failures old mid → Moments time past P mid new → failures old ≤ failures new → HasGoneOn time past failures old new
  gone_by_count P old mid new first m more = record {
    later = omega (arith, first.later, m.later);
    kept = λ t f le. m.kept t f (omega (arith, le, first.later)) ∙ first.kept t f le;
    no_fewer = more;
  }

  pub gone_still : (old new : D) → ChangesNothing time past now old new → failures new ≡ failures old → HasGoneOn time past failures old new
  gone_still old new none same = record { later = omega (arith, none.still); kept = none.kept; no_fewer = omega (arith, same) }

  pub entries_still : (es : List HistoryEntry) (old new : D) → ChangesNothing time past now old new → HaveEntries es (now old) → HaveEntries es (now new)
  entries_still es old new none have = subst (λ (files : ℕ → FileState). HaveEntries es files) (fun_ext (λ f. sym (none.same f))) have

module _ {D : Type 0} (tells : Bool) (time : D → ℕ) (past : D → Past) (now : D → ℕ → FileState) (failures : D → ℕ) (present : (d : D) (f : ℕ) → past d (time d) f ≡ now d f) (sound : (d : D) (t f : ℕ) → IsTrue tells → IsSound (past d t f)) (disk : D) where
  -- ---- the first opening
  pub opened : (answers : List Answer) (marks : List ℕ) (h : HistoryState D) → answers ≡ [] → marks ≡ failures h.disk ∷ [] → HasOpened tells time past now failures disk h → IsOpen tells time past now failures disk [] answers marks h
  opened answers marks h no_answer one is =
      subst (λ (noted : List Answer). IsOpen tells time past now failures disk [] noted marks h) (sym no_answer)
      (subst (λ (ms : List ℕ). IsOpen tells time past now failures disk [] [] ms h) (sym one) (record {
        come = record {
          start = h.entries;
          found = is.entries;
          come = (record { mark = failures h.disk; are = refl }, refl);
          kept = λ told empty. one_list (readings (now disk)) h.entries [] (is.entries told) ((empty_vault (now disk) empty).1 (readings (now disk)) (image told)).0;
        };
        few = λ told. (is.entries told).few;
        rises = (is.hands.runs.no_fewer, tt);
        counted = omega arith;
        bounded = is.bounded;
        stamped = λ told most none_above. let at = is.stamp told in let le = none_above (readings (now disk)) (image told) in omega (arith, at, le);
        since = λ told. let at = is.opened in omega (arith, at);
        own = λ told are. is.own told (are_own (now disk) are);
        runs = λ told. is.hands.runs;
      }))
    where
      image : IsTrue tells → IsDiskImage (now disk) (readings (now disk))
      image told = readings_left tells time past now failures present sound disk told

  pub never_opened : (marks : List ℕ) (halt : Halt) (back : D) → marks ≡ [] → HasNotOpened tells time past now failures disk halt back → Halts tells time past now failures disk marks halt back × IsUnopened tells (now disk) (now back) [] marks
  never_opened marks halt back none is = (
    subst (λ (ms : List ℕ). Halts tells time past now failures disk ms halt back) (sym none) (record {
      rises = tt;
      counted = is.hands.runs.no_fewer;
      cause = is.cause;
      foreign = λ by told are. is.foreign by told (are (readings (now disk)) (readings_left tells time past now failures present sound disk told)).0;
      first = λ by empty. is.hands;
      runs = λ told. is.hands.runs;
    }),
    record {
      none = refl;
      unmarked = none;
      empty = λ told empty. entries_carried [] (now disk) (now back) (synced_no_new tells time past now failures present sound disk back is.hands told) (empty_vault (now disk) empty).1;
    },
  )

  -- ---- one line more
  come_more : (lines : List HistoryLine) (line : HistoryLine) (answers : List Answer) (answer : Answer) (front behind : List ℕ) (es fs : List HistoryEntry) → HasCome tells (failures disk) (now disk) lines (reverse answers) front es → IsAnswered tells line answer es fs
      → IsMarked answer (last_mark (failures disk) front) behind → (IsTrue tells → (most : ℕ) → NoneAbove most (now disk) → IsUsedUp answer (most + count_by is_save lines)) → HasCome tells (failures disk) (now disk) (line ∷ lines) (reverse (answers ++ answer ∷ [])) (front ++ behind) fs
  come_more lines line answers answer front behind es fs come answered marked used_up =
      subst (λ (noted : List Answer). HasCome tells (failures disk) (now disk) (line ∷ lines) noted (front ++ behind) fs) (sym (reversed answers answer)) (record {
        start = come.start;
        found = come.found;
        come = record { es = es; front = front; behind = behind; come = come.come; answered = answered; marked = marked; used_up = used_up; are = refl };
        kept = λ told empty. kept_more tells line answer es fs (saves_in lines (reverse answers)) told answered (come.kept told empty);
      })

  -- a save behind which the history is still open
  pub saved : (P : (ℕ → FileState) → Type 0) (lines : List HistoryLine) (line : HistoryLine) (answers more_answers : List Answer) (answer : Answer) (marks more_marks : List ℕ) (h i j : HistoryState D) → IsOpen tells time past now failures disk lines answers marks h
      → is_save line ≡ true → IsAnswered tells line answer h.entries i.entries → ((mark : ℕ) → IsMarked answer (last_mark (failures disk) marks) (mark ∷ [])) → (IsTrue tells → (most : ℕ) → NoneAbove most (now disk) → IsUsedUp answer (most + count_by is_save lines))
      → (i.stamp ≤ h.stamp + 1) × (i.opened ≡ h.opened) × (failures h.disk ≤ failures i.disk) → failures i.disk < 2 ^ 64 → (IsTrue tells → Moments time past P h.disk i.disk)
      → j ≡ i → more_answers ≡ answers ++ answer ∷ [] → more_marks ≡ marks ++ failures i.disk ∷ [] → IsOpen tells time past now failures disk (line ∷ lines) more_answers more_marks j
  saved P lines line answers more_answers answer marks more_marks h i j is a_save answered marked used_up later small moments same answers_are marks_are =
      subst (λ (x : HistoryState D). IsOpen tells time past now failures disk (line ∷ lines) more_answers more_marks x) (sym same)
      (subst (λ (noted : List Answer). IsOpen tells time past now failures disk (line ∷ lines) noted more_marks i) (sym answers_are)
      (subst (λ (ms : List ℕ). IsOpen tells time past now failures disk (line ∷ lines) (answers ++ answer ∷ []) ms i) (sym marks_are) (record {
        come = come_more lines line answers answer marks (failures i.disk ∷ []) h.entries i.entries is.come answered (marked (failures i.disk)) used_up;
        few = λ told. few_more tells line answer h.entries i.entries told answered (is.few told);
        rises = rises_behind (failures disk) marks (failures i.disk) is.rises up;
        counted = let e = last_behind (failures disk) marks (failures i.disk) in omega (arith, e);
        bounded = let e = last_behind (failures disk) marks (failures i.disk) in omega (arith, e, small);
        stamped = λ told most none_above. let s = is.stamped told most none_above in let l = later.0 in let c = counted_save line lines a_save in omega (arith, s, l, c);
        since = λ told. let s = is.since told in let o = later.1 in let l = (moments told).later in omega (arith, s, o, l);
        own = λ told are. subst AreOwn (fun_ext (λ f. sym (here told f))) (is.own told are);
        runs = λ told. gone_on tells time past now failures present disk h.disk i.disk (is.runs told) (gone_by tells time past now failures present P h.disk i.disk (moments told) later.2);
      })))
    where
      up : last_mark (failures disk) marks ≤ failures i.disk
      up = let c = is.counted in let m = later.2 in omega (arith, c, m)

      here : IsTrue tells → (f : ℕ) → past i.disk i.opened f ≡ past h.disk h.opened f
      here told f = ap (λ t. past i.disk t f) later.1 ∙ (moments told).kept h.opened f (is.since told)

  -- a line at which memory ran out, before anything came of it
  pub held_up : (lines : List HistoryLine) (line : HistoryLine) (answers : List Answer) (marks more_marks : List ℕ) (h : HistoryState D) (back : D) → IsOpen tells time past now failures disk lines answers marks h → more_marks ≡ marks → failures h.disk ≤ failures back
      → (IsTrue tells → HasGoneOn time past failures h.disk back) → (IsTrue tells → HaveEntries h.entries (now back)) → StopsAt tells time past now failures disk lines line more_marks NoMemory back
  held_up lines line answers marks more_marks h back is same more goes have = subst (λ (ms : List ℕ). StopsAt tells time past now failures disk lines line ms NoMemory back) (sym same) (record {
    halts = record {
      rises = is.rises;
      counted = let c = is.counted in omega (arith, c, more);
      cause = λ odd. absurd cc;
      foreign = λ odd. absurd cc;
      first = λ odd. absurd cc;
      runs = λ told. gone_on tells time past now failures present disk h.disk back (is.runs told) (goes told);
    };
    undone = λ odd. absurd cc;
    reached = inr (refl, record { answers = reverse answers; entries = h.entries; come = is.come; have = have });
  })

  -- a save that was refused for want of memory
  pub refused : (P : (ℕ → FileState) → Type 0) (lines : List HistoryLine) (line : HistoryLine) (answers : List Answer) (marks more_marks : List ℕ) (h i : HistoryState D) (back : D) → IsOpen tells time past now failures disk lines answers marks h → more_marks ≡ marks → back ≡ i.disk
      → i.entries ≡ h.entries → (i.stamp ≤ h.stamp + 1) × (i.opened ≡ h.opened) × (failures h.disk ≤ failures i.disk) → (IsTrue tells → Moments time past P h.disk i.disk) → (IsTrue tells → HaveEntries i.entries (now i.disk))
      → StopsAt tells time past now failures disk lines line more_marks NoMemory back
  refused P lines line answers marks more_marks h i back is same handed as_before later moments have =
      subst (λ (d : D). StopsAt tells time past now failures disk lines line more_marks NoMemory d) (sym handed)
      (held_up lines line answers marks more_marks h i.disk is same later.2 (λ told. gone_by tells time past now failures present P h.disk i.disk (moments told) later.2)
      (λ told. subst (λ (es : List HistoryEntry). HaveEntries es (now i.disk)) as_before (have told)))

  -- a line for which there was no room
  pub without_room : (lines : List HistoryLine) (line : HistoryLine) (answers : List Answer) (marks more_marks : List ℕ) (h : HistoryState D) (back : D) → IsOpen tells time past now failures disk lines answers marks h → more_marks ≡ marks → back ≡ h.disk
      → (IsTrue tells → HaveEntries h.entries (now h.disk)) → StopsAt tells time past now failures disk lines line more_marks NoMemory back
  without_room lines line answers marks more_marks h back is same handed have =
      subst (λ (d : D). StopsAt tells time past now failures disk lines line more_marks NoMemory d) (sym handed)
      (held_up lines line answers marks more_marks h h.disk is same (omega arith) (λ told. stays tells time past now failures present h.disk) have)

  -- a crash that was not made for want of memory
  pub uncrashed : (lines : List HistoryLine) (line : HistoryLine) (answers : List Answer) (marks more_marks : List ℕ) (h : HistoryState D) (mid back : D) → IsOpen tells time past now failures disk lines answers marks h → more_marks ≡ marks → mid ≡ h.disk
      → ChangesNothing time past now mid back → failures back ≡ failures mid → (IsTrue tells → HaveEntries h.entries (now h.disk)) → StopsAt tells time past now failures disk lines line more_marks NoMemory back
  uncrashed lines line answers marks more_marks h mid back is same handed none faults have =
      held_up lines line answers marks more_marks h back is same (let e = ap failures handed in omega (arith, e, faults))
      (λ told. subst (λ (d : D). HasGoneOn time past failures d back) handed (gone_still tells time past now failures present mid back none faults))
      (λ told. entries_still tells time past now failures present h.entries mid back none (subst (λ (d : D). HaveEntries h.entries (now d)) (sym handed) (have told)))

  -- the same answers and marks, in an account with more room
  pub with_room : (lines : List HistoryLine) (answers more_answers : List Answer) (marks more_marks : List ℕ) (h : HistoryState D) → more_answers ≡ answers → more_marks ≡ marks → IsOpen tells time past now failures disk lines answers marks h → IsOpen tells time past now failures disk lines more_answers more_marks h
  with_room lines answers more_answers marks more_marks h same_answers same_marks is = subst (λ (noted : List Answer). IsOpen tells time past now failures disk lines noted more_marks h) (sym same_answers)
      (subst (λ (ms : List ℕ). IsOpen tells time past now failures disk lines answers ms h) (sym same_marks) is)

  -- ---- a line behind which the history is opened again

  -- a save at which the disk failed
  pub failed : (lines : List HistoryLine) (line : HistoryLine) (answers : List Answer) (marks : List ℕ) (h : HistoryState D) (fs : List HistoryEntry) (back : D) → IsOpen tells time past now failures disk lines answers marks h → is_save line ≡ true
      → Rose (failures h.disk) (failures back) → failures back < 2 ^ 64 → (IsTrue tells → Moments time past (HaveEither h.entries fs) h.disk back) → (IsTrue tells → NoneAbove (h.stamp + 1) (now back)) → (IsTrue tells → AreOwn (past h.disk h.opened) → AreHistories (now back))
      → IsClosed tells time past now failures disk (line ∷ lines) (marks ++ failures back ∷ []) h.entries fs back
  failed lines line answers marks h fs back is a_save rose small moments stamps histories = record {
    rises = rises_behind (failures disk) marks (failures back) is.rises up;
    counted = let e = last_behind (failures disk) marks (failures back) in omega (arith, e);
    bounded = let e = last_behind (failures disk) marks (failures back) in omega (arith, e, small);
    have = λ told. moments_now time past now present (HaveEither h.entries fs) h.disk back (moments told);
    stamped = λ told most none_above. above_less (h.stamp + 1) (most + count_by is_save (line ∷ lines)) (now back) (let s = is.stamped told most none_above in let c = counted_save line lines a_save in omega (arith, s, c)) (stamps told);
    own = λ told are. histories told (is.own told are);
    runs = λ told. gone_by_count tells time past now failures present (HaveEither h.entries fs) disk h.disk back (is.runs told) (moments told) more;
  }
    where
      up : last_mark (failures disk) marks ≤ failures back
      up = rose_later (last_mark (failures disk) marks) (failures h.disk) (failures back) is.bounded is.counted rose

      more : failures disk ≤ failures back
      more = let b = first_below (failures disk) marks is.rises in let u = up in omega (arith, b, u)

  -- a crash
  pub crashed : (lines : List HistoryLine) (pick : ℕ) (answers : List Answer) (marks : List ℕ) (h : HistoryState D) (mid back : D) → IsOpen tells time past now failures disk lines answers marks h → mid ≡ h.disk
      → (IsTrue tells → HaveEntries h.entries (now h.disk)) → (IsTrue tells → NoneAbove h.stamp (now h.disk)) → (IsTrue tells → AreOwn (past h.disk h.opened) → AreHistories (now h.disk))
      → Elapses time past mid back → failures back ≡ failures mid → (IsTrue tells → HaveNoNew (now mid) (now back))
      → IsClosed tells time past now failures disk (Crash pick ∷ lines) marks h.entries h.entries back
  crashed lines pick answers marks h mid back is same have stamps histories elapses faults no_new = record {
    rises = is.rises;
    counted = let c = is.counted in let e = ap failures same in omega (arith, c, faults, e);
    bounded = is.bounded;
    have = λ told. twice h.entries (now back) (entries_carried h.entries (now h.disk) (now back) (from told) (have told));
    stamped = λ told most none_above. stamps_carried (most + count_by is_save lines) (now h.disk) (now back) (from told) (above_less h.stamp (most + count_by is_save lines) (now h.disk) (is.stamped told most none_above) (stamps told));
    own = λ told are. histories_carried (now h.disk) (now back) (from told) (histories told (is.own told are));
    runs = λ told. gone_on tells time past now failures present disk h.disk back (is.runs told) (subst (λ (d : D). HasGoneOn time past failures d back) same (record { later = elapses.later; kept = elapses.kept; no_fewer = omega (arith, faults) }));
  }
    where
      from : IsTrue tells → HaveNoNew (now h.disk) (now back)
      from told = subst (λ (d : D). HaveNoNew (now d) (now back)) same (no_new told)

  module _ (lines : List HistoryLine) (marks : List ℕ) (es fs : List HistoryEntry) (back : D) (is : IsClosed tells time past now failures disk lines marks es fs back) where
    -- Of the entries that the disk had, the opening has found one list or the other.
    pub which : (h : HistoryState D) → HasOpened tells time past now failures back h → IsTrue tells → (h.entries ≡ es) ⊎ (h.entries ≡ fs)
    which h opens told = ⊎_elim
        (λ old. inl (one_list (readings (now back)) h.entries es (opens.entries told) old))
        (λ new. inr (one_list (readings (now back)) h.entries fs (opens.entries told) new))
        (is.have told (readings (now back)) (image told)).0
      where
        image : IsTrue tells → IsDiskImage (now back) (readings (now back))
        image told = readings_left tells time past now failures present sound back told

    -- The history is open again.
    pub open_again : (answers : List Answer) (more_marks : List ℕ) (h : HistoryState D) → HasOpened tells time past now failures back h → more_marks ≡ marks ++ failures h.disk ∷ [] → HasCome tells (failures disk) (now disk) lines (reverse answers) (marks ++ failures h.disk ∷ []) h.entries
        → IsOpen tells time past now failures disk lines answers more_marks h
    open_again answers more_marks h opens marks_are come = subst (λ (ms : List ℕ). IsOpen tells time past now failures disk lines answers ms h) (sym marks_are) (record {
      come = come;
      few = λ told. (opens.entries told).few;
      rises = rises_behind (failures disk) marks (failures h.disk) is.rises (let c = is.counted in let n = opens.hands.runs.no_fewer in omega (arith, c, n));
      counted = let e = last_behind (failures disk) marks (failures h.disk) in omega (arith, e);
      bounded = let e = last_behind (failures disk) marks (failures h.disk) in let b = opens.bounded in omega (arith, e, b);
      stamped = λ told most none_above. let at = opens.stamp told in let le = is.stamped told most none_above (readings (now back)) (readings_left tells time past now failures present sound back told) in omega (arith, at, le);
      since = λ told. let at = opens.opened in omega (arith, at);
      own = λ told are. opens.own told (are_own (now back) (is.own told are));
      runs = λ told. gone_on tells time past now failures present disk back h.disk (is.runs told) opens.hands.runs;
    })

    -- It isn't open again.
    pub shut : (more_marks : List ℕ) (earlier : List HistoryLine) (line : HistoryLine) (halt : Halt) (end : D) → lines ≡ line ∷ earlier → more_marks ≡ marks → HasNotOpened tells time past now failures back halt end
        → IsAtOpening tells (failures disk) (now disk) (now end) (line ∷ earlier) marks → (marks ≢ []) → StopsAt tells time past now failures disk earlier line more_marks halt end
    shut more_marks earlier line halt end lines_are same fails at some = subst (λ (ms : List ℕ). StopsAt tells time past now failures disk earlier line ms halt end) (sym same) (record {
      halts = record {
        rises = is.rises;
        counted = let c = is.counted in let n = fails.hands.runs.no_fewer in omega (arith, c, n);
        cause = λ by. rose_above (last_mark (failures disk) marks) (failures back) (failures end) is.bounded is.counted (fails.cause by);
        foreign = λ by told are. fails.foreign by told (is.own told are (readings (now back)) (readings_left tells time past now failures present sound back told)).0;
        first = λ by none. absurd (some none);
        runs = λ told. gone_on tells time past now failures present disk back end (is.runs told) fails.hands.runs;
      };
      undone = fails.undone;
      reached = inl at;
    })

    -- what was there before a failed opening is there behind it
    pub still_either : (halt : Halt) (end : D) → HasNotOpened tells time past now failures back halt end → IsTrue tells → HaveEither es fs (now end)
    still_either halt end fails told = either_carried es fs (now back) (now end) (synced_no_new tells time past now failures present sound back end fails.hands told) (is.have told)

  pub some_marks : (lines : List HistoryLine) (answers : List Answer) (marks : List ℕ) (h : HistoryState D) → IsOpen tells time past now failures disk lines answers marks h → marks ≢ []
  some_marks lines answers marks h is none = has_marks lines (reverse answers) marks h.entries is.come.come none
    where
      has_marks : (ls : List HistoryLine) (noted : List Answer) (ms : List ℕ) (es : List HistoryEntry) → HaveCome tells (now disk) (failures disk) is.come.start ls noted ms es → ms ≢ []
      has_marks [] [] ms es come empty = absurd (let odd : ms ≡ come.0.mark ∷ [] = come.0.are in let no : [] ≡ come.0.mark ∷ [] = sym empty ∙ odd in cc)
      has_marks (l ∷ ls) (a ∷ noted) ms es come empty = has_marks ls noted come.front come.es come.come (front_empty come.front come.behind (sym come.are ∙ empty))
      has_marks [] (a ∷ noted) ms es come empty = absurd come
      has_marks (l ∷ ls) [] ms es come empty = absurd come

  -- ---- the opening behind a save at which the disk failed
  module _ (lines : List HistoryLine) (moment : ℕ) (content : List ℕ) (answers : List Answer) (marks mid_marks : List ℕ) (h : HistoryState D) (back : D) (is : HasFaulted tells time past now failures disk lines answers marks h (save_at moment content) back)
      (small : failures back < 2 ^ 64) (mid_are : mid_marks ≡ marks ++ failures back ∷ []) where
    closed : IsClosed tells time past now failures disk (Saved moment content ∷ lines) (marks ++ failures back ∷ []) h.entries (next h.entries (save_at moment content)) back
    closed = failed lines (Saved moment content) answers marks h (next h.entries (save_at moment content)) back is.open_before refl is.rose small is.moments is.stamps is.histories

    rose : Rose (last_mark (failures disk) marks) (failures back)
    rose = rose_above (last_mark (failures disk) marks) (failures h.disk) (failures back) is.open_before.bounded is.open_before.counted is.rose

    pub faulted_open : (i : HistoryState D) (more_answers : List Answer) (more_marks : List ℕ) → HasOpened tells time past now failures back i → more_marks ≡ mid_marks ++ failures i.disk ∷ [] → more_answers ≡ answers ++ fault_answer i.entries (save_at moment content) ∷ []
        → IsOpen tells time past now failures disk (Saved moment content ∷ lines) more_answers more_marks i
    faulted_open i more_answers more_marks opens marks_are answers_are =
        let save : Save = save_at moment content in
        let answer : Answer = fault_answer i.entries save in
        let answered : IsAnswered tells (Saved moment content) answer h.entries i.entries = answered_fault tells moment content h.entries i.entries is.open_before.few
        (which (Saved moment content ∷ lines) (marks ++ failures back ∷ []) h.entries (next h.entries save) back closed i opens) in
        subst (λ (noted : List Answer). IsOpen tells time past now failures disk (Saved moment content ∷ lines) noted more_marks i) (sym answers_are)
        (open_again (Saved moment content ∷ lines) (marks ++ failures back ∷ []) h.entries (next h.entries save) back closed (answers ++ answer ∷ []) more_marks i opens (marks_are ∙ ap (λ (ms : List ℕ). ms ++ failures i.disk ∷ []) mid_are)
        (subst (λ (ms : List ℕ). HasCome tells (failures disk) (now disk) (Saved moment content ∷ lines) (reverse (answers ++ answer ∷ [])) ms i.entries) (sym (append_assoc marks (failures back ∷ []) (failures i.disk ∷ [])))
        (come_more lines (Saved moment content) answers answer marks (failures back ∷ failures i.disk ∷ []) h.entries i.entries is.open_before.come answered (marked i) (unused i))))
      where
        marked : (i : HistoryState D) → IsMarked (fault_answer i.entries (save_at moment content)) (last_mark (failures disk) marks) (failures back ∷ failures i.disk ∷ [])
        marked i = go (ends_with i.entries (save_at moment content))
          where
            go : (b : Bool) → IsMarked (if b then FaultIn else FaultOut) (last_mark (failures disk) marks) (failures back ∷ failures i.disk ∷ [])
            go true = record { failed = failures back; opened = failures i.disk; are = refl; rose = rose }
            go false = record { failed = failures back; opened = failures i.disk; are = refl; rose = rose }

        unused : (i : HistoryState D) → IsTrue tells → (most : ℕ) → NoneAbove most (now disk) → IsUsedUp (fault_answer i.entries (save_at moment content)) (most + count_by is_save lines)
        unused i told most none_above = go (ends_with i.entries (save_at moment content))
          where
            go : (b : Bool) → IsUsedUp (if b then FaultIn else FaultOut) (most + count_by is_save lines)
            go true = tt
            go false = tt

    pub faulted_shut : (halt : Halt) (end : D) (more_marks : List ℕ) → HasNotOpened tells time past now failures back halt end → more_marks ≡ mid_marks → StopsAt tells time past now failures disk lines (Saved moment content) more_marks halt end
    faulted_shut halt end more_marks fails same =
        shut (Saved moment content ∷ lines) (marks ++ failures back ∷ []) h.entries (next h.entries (save_at moment content)) back closed more_marks lines (Saved moment content) halt end refl (same ∙ mid_are) fails
        (record {
          line = Saved moment content;
          earlier = lines;
          lines_are = refl;
          answers = reverse answers;
          entries = h.entries;
          front = marks;
          behind = failures back ∷ [];
          come = is.open_before.come;
          waits = (failures back, refl, rose, λ told. still_either (Saved moment content ∷ lines) (marks ++ failures back ∷ []) h.entries (next h.entries (save_at moment content)) back closed halt end fails told);
          marks_are = refl;
        })
        (λ none. some_marks lines answers marks h is.open_before (front_empty marks (failures back ∷ []) none))

  -- ---- the opening behind a crash
  module _ (lines : List HistoryLine) (pick : ℕ) (answers : List Answer) (marks : List ℕ) (h : HistoryState D) (back : D) (is : IsOpen tells time past now failures disk lines answers marks h)
      (closed : IsClosed tells time past now failures disk (Crash pick ∷ lines) marks h.entries h.entries back) where
    pub crashed_open : (i : HistoryState D) (more_answers : List Answer) (more_marks : List ℕ) → HasOpened tells time past now failures back i → more_marks ≡ marks ++ failures i.disk ∷ [] → more_answers ≡ answers ++ Crashed ∷ []
        → IsOpen tells time past now failures disk (Crash pick ∷ lines) more_answers more_marks i
    crashed_open i more_answers more_marks opens marks_are answers_are =
        subst (λ (noted : List Answer). IsOpen tells time past now failures disk (Crash pick ∷ lines) noted more_marks i) (sym answers_are)
        (open_again (Crash pick ∷ lines) marks h.entries h.entries back closed (answers ++ Crashed ∷ []) more_marks i opens marks_are
        (come_more lines (Crash pick) answers Crashed marks (failures i.disk ∷ []) h.entries i.entries is.come
        (λ told. ⊎_elim (λ a. a) (λ b. b) (which (Crash pick ∷ lines) marks h.entries h.entries back closed i opens told))
        (record { mark = failures i.disk; are = refl }) (λ told most none_above. tt)))

    pub crashed_shut : (halt : Halt) (end : D) (more_marks : List ℕ) → HasNotOpened tells time past now failures back halt end → more_marks ≡ marks → StopsAt tells time past now failures disk lines (Crash pick) more_marks halt end
    crashed_shut halt end more_marks fails same =
        shut (Crash pick ∷ lines) marks h.entries h.entries back closed more_marks lines (Crash pick) halt end refl same fails
        (record {
          line = Crash pick;
          earlier = lines;
          lines_are = refl;
          answers = reverse answers;
          entries = h.entries;
          front = marks;
          behind = [];
          come = is.come;
          waits = (refl, λ told. once h.entries (now end) (still_either (Crash pick ∷ lines) marks h.entries h.entries back closed halt end fails told));
          marks_are = sym (append-nil marks);
        })
        (some_marks lines answers marks h is)

  -- ---- all lines
  pub stops_at : (lines front rest : List HistoryLine) (line : HistoryLine) (marks : List ℕ) (halt : Halt) (back : D) → lines ≡ front ++ (line ∷ rest) → StopsAt tells time past now failures disk (reverse front) line marks halt back
      → StopsEarly tells (failures disk) (now disk) (now back) lines marks halt
  stops_at lines front rest line marks halt back all stops = ⊎_elim
      (λ at. record {
        taken = front ++ line ∷ [];
        left = rest;
        lines_are = all ∙ sym (append_assoc front (line ∷ []) rest);
        reached = inl (inr (subst (λ (ls : List HistoryLine). IsAtOpening tells (failures disk) (now disk) (now back) ls marks) (sym (reversed front line)) at));
      })
      (λ behind. record { taken = front; left = line ∷ rest; lines_are = all; reached = inr behind })
      stops.reached

  pub stops_first : (lines : List HistoryLine) (marks : List ℕ) (halt : Halt) (back : D) → IsUnopened tells (now disk) (now back) [] marks → StopsEarly tells (failures disk) (now disk) (now back) lines marks halt
  stops_first lines marks halt back is = record { taken = []; left = lines; lines_are = refl; reached = inl (inl is) }

  pub stops_last : (lines : List HistoryLine) (answers : List Answer) (marks : List ℕ) (h : HistoryState D) (back : D) → IsOpen tells time past now failures disk (reverse lines) answers marks h → (IsTrue tells → HaveEntries h.entries (now back)) → StopsEarly tells (failures disk) (now disk) (now back) lines marks NoMemory
  stops_last lines answers marks h back is have = record {
    taken = lines;
    left = [];
    lines_are = sym (append-nil lines);
    reached = inr (refl, record { answers = reverse answers; entries = h.entries; come = is.come; have = have });
  }

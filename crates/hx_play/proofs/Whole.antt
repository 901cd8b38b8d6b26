-- Lives that follow a script name only resources of their own.
use Rattle.std.specs.Prelude.{◌≡◌, ◌≤◌, ◌<◌, ◌+◌, ◌==◌, ℕ, zero, suc, not, Bool, true, false, ◌&&◌, List, [], ◌∷◌, ◌++◌, length, All, Option, Some, None, reverse, if◌then◌else◌, refl}
use Rattle.std.proofs.Common.{sym, ◌∙◌, subst, arith, ⊎_elim, ne_eqb}
use Rattle.std.proofs.lemmas.Bool.{cases_lt}
use Rattle.std.proofs.lemmas.Bool.Decides.{nat_tests}
use Rattle.std.proofs.lemmas.List.{get_or_past, length-map, reverse-append, reverse-reverse}
use Rattle.hx_disk.specs.File.{FileState}
use Rattle.hx_etag.specs.declared.stat.Stat.{Stat}
use Rattle.hx_events.specs.declared.event.Command.{Command}
use Rattle.hx_events.specs.declared.event.Command.TheVariants.{Open, Create, Edit, Undo, Redo, Save, Revert, Close, Outside}
use Rattle.hx_events.specs.declared.event.Event.{Event}
use Rattle.hx_events.specs.declared.event.Event.TheVariants.{Act, Vault, Flush, Quit}
use Rattle.hx_events.specs.declared.life.Ended.{Ended}
use Rattle.hx_events.specs.declared.life.Ended.TheVariants.{Script, Restart as AtRestart, Crash as ByCrash, Cut}
use Rattle.hx_events.specs.declared.life.Entry.{Entry}
use Rattle.hx_events.specs.declared.life.Life.{Life}
use Rattle.hx_events.specs.declared.outcome.Outcome.{Outcome}
use Rattle.hx_events.specs.declared.outcome.Outcome.TheVariants.{Idle, Vetoed}
use Rattle.hx_events.specs.Texts.{IsEventOf, IsOutcomeOf, resource_of}
use Rattle.hx_rules.specs.Copies.{kept}
use Rattle.hx_rules.specs.Due.{due_save, due_vault}
use Rattle.hx_rules.specs.Entries.{is_of, own}
use Rattle.hx_rules.specs.Interleavings.{are_closing, ends_in_quit, is_closer, is_closing_stage, is_end, is_idle, is_quit}
use Rattle.hx_rules.specs.Legal.{Opening, flush_row, found_backup, is_legal, is_lowest, is_row, is_over, is_unsafe, lowest, lowest_from, restored_at, run_at, vault_row, was_spent}
use Rattle.hx_rules_laws.specs.Rows.{and_left, and_right, not_true, past_legal, row_holds}
use Rattle.hx_report.specs.Traces.{AreEntriesOf, AreWhole, IsWhole}
use Rattle.hx_script.specs.declared.script.Step.{Step}
use Rattle.hx_script.specs.declared.script.Step.TheVariants.{Do, Crash, Restart}
use Rattle.hx_script.specs.Follows.{Follows, HasDone, HasFollowed, HaveEnded, IsClosed, Move, moves_asked, moves_of}
use Rattle.hx_script.specs.Scripts.{IsStepOf}
use Rattle.hx_lives.specs.Course.{Past, course_of, opening}
use Rattle.hx_lives.specs.Chained.{AreLived}
use Rattle.hx_play.proofs.Halts.{all_tail}
use Rattle.hx_play.proofs.LifeSteps.{names_stay}

-- the resources that these entries' events name are among the names
abbrev pub AreEventsOf : List (List ℕ) → List Entry → Type 0
AreEventsOf names [] = Unit {0}
AreEventsOf names (e ∷ es) = IsEventOf names e.event × AreEventsOf names es

abbrev AreMovesOf : List (List ℕ) → List Move → Type 0
AreMovesOf names [] = Unit {0}
AreMovesOf names (m ∷ ms) = IsEventOf names m.event × AreMovesOf names ms

abbrev AreStepsOf : List (List ℕ) → List Step → Type 0
AreStepsOf names [] = Unit {0}
AreStepsOf names (s ∷ steps) = IsStepOf names s × AreStepsOf names steps

-- what is asked of lives names declared resources alone
each_step : (names : List (List ℕ)) (steps : List Step) → All (IsStepOf names) steps → AreStepsOf names steps
each_step names [] all = tt
each_step names (s ∷ steps) all = (all 0 s (omega arith), each_step names steps (all_tail (IsStepOf names) s steps all))

steps_append : (names : List (List ℕ)) (xs ys : List Step) → AreStepsOf names xs → AreStepsOf names ys → AreStepsOf names (xs ++ ys)
steps_append names [] ys left right = right
steps_append names (s ∷ xs) ys left right = (left.0, steps_append names xs ys left.1 right)

steps_reverse : (names : List (List ℕ)) (steps : List Step) → AreStepsOf names steps → AreStepsOf names (reverse steps)
steps_reverse names [] all = tt
steps_reverse names (s ∷ steps) all = subst (AreStepsOf names) (sym (reverse-append (s ∷ []) steps)) (steps_append names (reverse steps) (s ∷ []) (steps_reverse names steps all.1) (all.0, tt))

moves_known : (names : List (List ℕ)) (steps : List Step) → AreStepsOf names steps → AreMovesOf names (moves_asked steps)
moves_known names [] all = tt
moves_known names (Do actor event ∷ before) all = (all.0.0, moves_known names before all.1)
moves_known names (Crash pick ∷ before) all = tt
moves_known names (Restart ∷ before) all = tt

-- more names name as much
pub event_stays : (names more : List (List ℕ)) → length names ≤ length more → (event : Event) → IsEventOf names event → IsEventOf more event
event_stays names more le (Act command) is = omega (arith, le, is)
event_stays names more le (Vault c) is = omega (arith, le, is)
event_stays names more le (Flush c) is = omega (arith, le, is)
event_stays names more le Quit is = tt

moves_made : (names more : List (List ℕ)) → length names ≤ length more → (es : List Entry) → AreMovesOf names (moves_of es) → AreEventsOf more es
moves_made names more le [] all = tt
moves_made names more le (e ∷ es) all = (event_stays names more le e.event all.0, moves_made names more le es all.1)

-- the lowest is one of those that were looked at
same_number : (a b : ℕ) → (a == b) ≡ true → b ≡ a
same_number a b same = grind (arith, nat_tests)

lowest_by : (b : Bool) (i n c : ℕ) (rest : Option ℕ) → is_lowest c (if b then Some i else rest) ≡ true → (is_lowest c rest ≡ true → c < i + 1 + n) → c < i + suc n
lowest_by true i n c rest is later = omega (arith, same_number i c is)
lowest_by false i n c rest is later = omega (arith, later is)

lowest_within : (test : ℕ → Bool) (i n c : ℕ) → is_lowest c (lowest_from test i n) ≡ true → c < i + n
lowest_within test i zero c is = absurd (let odd : false ≡ true = is in cc)
lowest_within test i (suc n) c is = lowest_by (test i) i n c (lowest_from test (i + 1) n) is (λ later. lowest_within test (i + 1) n c later)

module _ (names : List (List ℕ)) (o : Opening) (as_many : length o.restored ≡ length names) where
  -- the outcome's resource is among the names
  vetoed : (es : List Entry) (event : Event) (c : ℕ) → is_row o es event (Vetoed c) ≡ true → is_lowest c (lowest o (is_unsafe o es)) ≡ true
  vetoed es Quit c row = row
  vetoed es (Vault r) c row = absurd (let odd : false ≡ true = row in cc)
  vetoed es (Flush r) c row = absurd (let odd : false ≡ true = row in cc)
  vetoed es (Act command) c row = absurd (let odd : false ≡ true = act command c row in cc)
    where
      act : (command : Command) (c : ℕ) → is_row o es (Act command) (Vetoed c) ≡ true → false ≡ true
      act (Open r) c row = row
      act (Create r) c row = row
      act (Edit r off del text) c row = row
      act (Undo r) c row = row
      act (Redo r) c row = row
      act (Save r force over) c row = row
      act (Revert r) c row = row
      act (Close r) c row = row
      act (Outside r mtime text) c row = row

  outcome_known : (es : List Entry) (event : Event) (outcome : Outcome) → is_row o es event outcome ≡ true → IsOutcomeOf names outcome
  outcome_known es event (Vetoed c) row = omega (arith, as_many, lowest_within (is_unsafe o es) 0 (length o.restored) c (vetoed es event c row))
  outcome_known es event _ row = tt

  -- nothing was done to a resource past the names, and nothing is due for it
  none_own : (es : List Entry) (c : ℕ) → AreEventsOf names es → length names ≤ c → own c es ≡ []
  none_own [] c all past = refl
  none_own (e ∷ es) c all past = rw (apart e.event all.0) (none_own es c all.1 past)
    where
      apart : (event : Event) → IsEventOf names event → is_of c event ≡ false
      apart (Act command) is = ne_eqb (resource_of command) c (λ same. omega (arith, is, past, same))
      apart (Vault r) is = ne_eqb r c (λ same. omega (arith, is, past, same))
      apart (Flush r) is = ne_eqb r c (λ same. omega (arith, is, past, same))
      apart Quit is = refl

  none_restored : (c : ℕ) → length names ≤ c → restored_at o c ≡ None
  none_restored c past = get_or_past o.restored c None (omega (arith, as_many, past))

  bare_vault : (guarded : Bool) → due_vault None guarded [] ≡ None
  bare_vault true = refl
  bare_vault false = refl

  bare_save : (guarded : Bool) → due_save None guarded [] ≡ None
  bare_save true = refl
  bare_save false = refl

  idle_vault : (spent : Bool) (outcome : Outcome) → vault_row spent None outcome ≡ true → is_idle outcome ≡ true
  idle_vault spent Idle row = refl
  idle_vault spent _ row = absurd cc

  idle_save : (over : Bool) (base : Option Stat) (outcome : Outcome) → flush_row None over base outcome ≡ true → is_idle outcome ≡ true
  idle_save over base Idle row = refl
  idle_save over base _ row = absurd cc

  -- a stage of the Closer is of a resource of the life, since nothing is due for others
  pub stage_known : (es : List Entry) (event : Event) (outcome : Outcome) (so_far before : List Entry) → AreEventsOf names es → is_row o es event outcome ≡ true → is_idle outcome ≡ false → is_closing_stage o event so_far before ≡ true → IsEventOf names event
  stage_known es (Vault c) outcome so_far before all row works closes = ⊎_elim
      (λ within. within)
      (λ past.
      let none : due_vault (restored_at o c) o.guarded (own c es) ≡ None = (λ i. due_vault (none_restored c past i) o.guarded (none_own es c all past i)) ∙ bare_vault o.guarded in
      absurd (let odd : true ≡ false = sym (idle_vault (was_spent es) outcome (subst (λ d. vault_row (was_spent es) d outcome ≡ true) none row)) ∙ works in cc))
      (cases_lt c (length names))
  stage_known es (Flush c) outcome so_far before all row works closes = ⊎_elim
      (λ within. within)
      (λ past.
      let none : due_save (restored_at o c) o.guarded (own c es) ≡ None = (λ i. due_save (none_restored c past i) o.guarded (none_own es c all past i)) ∙ bare_save o.guarded in
      absurd (let odd : true ≡ false = sym (idle_save (is_over (run_at o es c)) (kept (restored_at o c) (own c es)) outcome (subst (λ d. flush_row d (is_over (run_at o es c)) (kept (restored_at o c) (own c es)) outcome ≡ true) none row)) ∙ works in cc))
      (cases_lt c (length names))
  stage_known es (Act command) outcome so_far before all row works closes = absurd cc
  stage_known es Quit outcome so_far before all row works closes = tt

  stages_known : (stages before : List Entry) → AreEventsOf names before → is_legal o (stages ++ before) ≡ true → are_closing o stages before ≡ true → AreEventsOf names (stages ++ before)
  stages_known [] before all legal closing = all
  stages_known (e ∷ so_far) before all legal closing =
      let rest : are_closing o so_far before ≡ true = and_right (is_closer e.actor && not (is_idle e.outcome) && is_closing_stage o e.event so_far before) (are_closing o so_far before) closing in
      let first : (is_closer e.actor && not (is_idle e.outcome) && is_closing_stage o e.event so_far before) ≡ true = and_left (is_closer e.actor && not (is_idle e.outcome) && is_closing_stage o e.event so_far before) (are_closing o so_far before) closing in
      let works : not (is_idle e.outcome) ≡ true = and_right (is_closer e.actor) (not (is_idle e.outcome)) (and_left (is_closer e.actor && not (is_idle e.outcome)) (is_closing_stage o e.event so_far before) first) in
      let closes : is_closing_stage o e.event so_far before ≡ true = and_right (is_closer e.actor && not (is_idle e.outcome)) (is_closing_stage o e.event so_far before) first in
      let below : AreEventsOf names (so_far ++ before) = stages_known so_far before all (past_legal o e (so_far ++ before) legal) rest in
      (stage_known (so_far ++ before) e.event e.outcome so_far before below (row_holds o e (so_far ++ before) legal) (not_true (is_idle e.outcome) works) closes, below)

  question_known : (event : Event) → is_quit event ≡ true → IsEventOf names event
  question_known Quit is = tt
  question_known (Vault c) is = absurd cc
  question_known (Flush c) is = absurd cc
  question_known (Act command) is = absurd cc

  pub end_known : (end before : List Entry) → AreEventsOf names before → is_legal o (end ++ before) ≡ true → is_end o end before ≡ true → AreEventsOf names (end ++ before)
  end_known [] before all legal ends = all
  end_known (e ∷ stages) before all legal ends =
      let closing : are_closing o stages before ≡ true = and_right (is_closer e.actor && is_quit e.event && not (ends_in_quit (stages ++ before))) (are_closing o stages before) ends in
      let first : (is_closer e.actor && is_quit e.event && not (ends_in_quit (stages ++ before))) ≡ true = and_left (is_closer e.actor && is_quit e.event && not (ends_in_quit (stages ++ before))) (are_closing o stages before) ends in
      let asks : is_quit e.event ≡ true = and_right (is_closer e.actor) (is_quit e.event) (and_left (is_closer e.actor && is_quit e.event) (not (ends_in_quit (stages ++ before))) first) in
      (question_known e.event asks, stages_known stages before all (past_legal o e (stages ++ before) legal) closing)

  -- and the outcomes' resources are among the names too
  pub entries_known : (es : List Entry) → AreEventsOf names es → is_legal o es ≡ true → AreEntriesOf names es
  entries_known [] all legal = tt
  entries_known (e ∷ es) all legal = ((all.0, outcome_known es e.event e.outcome (row_holds o e es legal)), entries_known es all.1 (past_legal o e es legal))

entries_append : (names : List (List ℕ)) (xs ys : List Entry) → AreEntriesOf names xs → AreEntriesOf names ys → AreEntriesOf names (xs ++ ys)
entries_append names [] ys left right = right
entries_append names (e ∷ xs) ys left right = (left.0, entries_append names xs ys left.1 right)

pub entries_reverse : (names : List (List ℕ)) (es : List Entry) → AreEntriesOf names es → AreEntriesOf names (reverse es)
entries_reverse names [] all = tt
entries_reverse names (e ∷ es) all = subst (AreEntriesOf names) (sym (reverse-append (e ∷ []) es)) (entries_append names (reverse es) (e ∷ []) (entries_reverse names es all.1) (all.0, tt))

-- one life
pub as_many : (life : Life) → length (opening (course_of life)).restored ≡ length life.names
as_many life = length-map life.names (λ (name : List ℕ). found_backup name life.base)

closed_known : (declared : List (List ℕ)) (life : Life) (asked : List Move) → length declared ≤ length life.names → AreMovesOf declared asked → is_legal (opening (course_of life)) (course_of life).entries ≡ true
    → IsClosed (course_of life) asked → AreEventsOf life.names (course_of life).entries
closed_known declared life asked le known legal closed =
    let work : AreEventsOf life.names closed.work = moves_made declared life.names le closed.work (subst (AreMovesOf declared) (sym closed.as_asked) known) in
    subst (AreEventsOf life.names) (sym closed.whole)
    (end_known life.names (opening (course_of life)) (as_many life) closed.end closed.work work (subst (λ (es : List Entry). is_legal (opening (course_of life)) es ≡ true) closed.whole legal) closed.ends)

done_known : (ended : Ended) (declared : List (List ℕ)) (life : Life) (asked : List Move) → length declared ≤ length life.names → AreMovesOf declared asked → is_legal (opening (course_of life)) (course_of life).entries ≡ true
    → HasDone ended (course_of life) asked → AreEventsOf life.names (course_of life).entries
done_known (ByCrash pick) declared life asked le known legal done = moves_made declared life.names le (course_of life).entries (subst (AreMovesOf declared) (sym done) known)
done_known AtRestart declared life asked le known legal done = closed_known declared life asked le known legal done
done_known Script declared life asked le known legal done = closed_known declared life asked le known legal done
done_known Cut declared life asked le known legal done = absurd done

pub life_whole : (guarded : Bool) (declared : List (List ℕ)) (ended : Ended) (asked : List Move) (life : Life) → AreMovesOf declared asked → is_legal (opening (course_of life)) (course_of life).entries ≡ true → HasFollowed guarded declared ended asked life → IsWhole life
life_whole guarded declared ended asked life known legal followed =
    let le : length declared ≤ length life.names = subst (λ (names : List (List ℕ)). length declared ≤ length names) (sym followed.named) (names_stay declared life.base) in
    let whole : AreEntriesOf life.names (reverse life.history) = entries_known life.names (opening (course_of life)) (as_many life) (reverse life.history) (done_known ended declared life asked le known legal followed.done) legal in
    subst (AreEntriesOf life.names) (reverse-reverse life.history) (entries_reverse life.names (reverse life.history) whole)

-- all lives, the newest first
ended_whole : (picked : ℕ → FileState → List ℕ) (tells : Bool) (past : Past) (first b : ℕ) (guarded : Bool) (declared : List (List ℕ)) (steps : List Step) (lives : List Life) → AreStepsOf declared steps → AreLived picked tells past first b lives → HaveEnded guarded declared steps lives → AreWhole lives
ended_whole picked tells past first b guarded declared [] lives known lived ended = subst AreWhole (sym ended) tt
ended_whole picked tells past first b guarded declared (Do actor event ∷ before) lives known lived ended = ended_whole picked tells past first b guarded declared before lives known.1 lived ended
ended_whole picked tells past first b guarded declared (Crash pick ∷ before) [] known lived ended = absurd ended
ended_whole picked tells past first b guarded declared (Crash pick ∷ before) (life ∷ earlier) known lived ended =
    (life_whole guarded declared (ByCrash pick) (moves_asked before) life (moves_known declared before known.1) lived.0.holds.legal ended.0, ended_whole picked tells past first life.moment guarded declared before earlier known.1 lived.1 ended.1)
ended_whole picked tells past first b guarded declared (Restart ∷ before) [] known lived ended = absurd ended
ended_whole picked tells past first b guarded declared (Restart ∷ before) (life ∷ earlier) known lived ended =
    (life_whole guarded declared AtRestart (moves_asked before) life (moves_known declared before known.1) lived.0.holds.legal ended.0, ended_whole picked tells past first life.moment guarded declared before earlier known.1 lived.1 ended.1)

lives_append : (xs ys : List Life) → AreWhole xs → AreWhole ys → AreWhole (xs ++ ys)
lives_append [] ys left right = right
lives_append (life ∷ xs) ys left right = (left.0, lives_append xs ys left.1 right)

lives_reverse : (lives : List Life) → AreWhole lives → AreWhole (reverse lives)
lives_reverse [] all = tt
lives_reverse (life ∷ lives) all = subst AreWhole (sym (reverse-append (life ∷ []) lives)) (lives_append (reverse lives) (life ∷ []) (lives_reverse lives all.1) (all.0, tt))

pub followers_whole : (picked : ℕ → FileState → List ℕ) (tells : Bool) (past : Past) (first b : ℕ) (guarded : Bool) (declared : List (List ℕ)) (steps : List Step) (lives : List Life) → All (IsStepOf declared) steps → AreLived picked tells past first b lives
    → Follows guarded declared (reverse steps) lives → AreWhole (reverse lives)
followers_whole picked tells past first b guarded declared steps [] all lived follows = absurd follows
followers_whole picked tells past first b guarded declared steps (last ∷ earlier) all lived follows =
    let known : AreStepsOf declared (reverse steps) = steps_reverse declared steps (each_step declared steps all) in
    lives_reverse (last ∷ earlier) (life_whole guarded declared Script (moves_asked (reverse steps)) last (moves_known declared (reverse steps) known) lived.0.holds.legal follows.0, ended_whole picked tells past first last.moment guarded declared (reverse steps) earlier known lived.1 follows.1)

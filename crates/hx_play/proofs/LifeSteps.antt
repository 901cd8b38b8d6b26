-- What each step of a script makes of the lives.
use Rattle.std.specs.Prelude.{◌≡◌, ◌≤◌, ℕ, Bool, true, false, IsTrue, List, [], ◌∷◌, ◌++◌, length, Result, Ok, Err, IfErr, is_some, if◌then◌else◌, refl}
use Rattle.std.proofs.Common.{sym, ◌∙◌, ap, subst, arith, inl, inr, length-append}
use Rattle.hx_disk.specs.File.{FileState}
use Rattle.hx_faults.specs.Faults.{Rose}
use Rattle.hx_events.specs.declared.backup.PairFound.{PairFound}
use Rattle.hx_events.specs.declared.backup.PairFound.TheVariants.{Found}
use Rattle.hx_events.specs.declared.event.Actor.{Actor}
use Rattle.hx_events.specs.declared.event.Event.{Event}
use Rattle.hx_events.specs.declared.outcome.Outcome.{Outcome}
use Rattle.hx_events.specs.declared.life.Ended.{Ended}
use Rattle.hx_events.specs.declared.life.Ended.TheVariants.{Script, Restart as AtRestart, Crash as ByCrash, Cut}
use Rattle.hx_events.specs.declared.life.Life.{Life}
use Rattle.hx_events.specs.Places.{place_of}
use Rattle.hx_rules.specs.Legal.{with_name, with_restored}
use Rattle.hx_script.specs.declared.script.Step.{Step}
use Rattle.hx_script.specs.declared.script.Step.TheVariants.{Do, Crash, Restart}
use Rattle.hx_script.specs.Follows.{Move, move_by, moves_of, moves_asked, IsClosed, IsCutOff, HaveEnded, Follows, opens_after}
use Rattle.hx_lives.specs.Course.{Course, Past, course_of, opening, last_faults}
use Rattle.hx_lives.specs.Chained.{OnlySyncs, AreLived, faults_of}
use Rattle.hx_lives.specs.Lasting.{agrees_less, at_once, lives_kept, lives_on}
use Rattle.hx_lives.specs.Quiet.{is_quiet_before_quit}
use Rattle.hx_lives.specs.State.{RegistryState}
use Rattle.hx_lives.specs.Calls.{AddsEntry, AddsStages, Begins, HandsBack, HasGoneOn, Quits}
use Rattle.hx_play.specs.Over.{AreOver, EndsLife}
use Rattle.hx_play.specs.Running.{IsBetween, IsCutShort, IsCutting, IsRunning}

-- The restored names stand behind the declared ones.
one_more : (resource : List ℕ) (names : List (List ℕ)) (known : Bool) → length names ≤ length (if known then names else names ++ resource ∷ [])
one_more resource names true = omega arith
one_more resource names false = omega (arith, length-append names (resource ∷ []))

pub names_stay : (names : List (List ℕ)) (base : List PairFound) → length names ≤ length (with_restored names base)
names_stay names [] = omega arith
names_stay names (Found b side ∷ pairs) = omega (arith, one_more b.resource names (is_some (place_of b.resource names)), names_stay (with_name b.resource names) pairs)
names_stay names (_ ∷ pairs) = names_stay names pairs

-- what follows of each error follows of a result's
pub if_err : {T E : Type 0} (r : Result T E) (P Q : E → Type 0) → ((e : E) → P e → Q e) → IfErr r P → IfErr r Q
if_err (Ok x) P Q next is = tt
if_err (Err e) P Q next is = next e is

-- a life that the Closer has ended
closed : (old new : Course) (asked : List Move) → moves_of old.entries ≡ asked → Quits old new → IsClosed new asked
closed old new asked as_asked quits = subst (λ (c : Course). IsClosed c asked) (sym quits.grown) (record {
  end = quits.end;
  work = old.entries;
  whole = refl;
  as_asked = as_asked;
  ends = quits.ends;
  quiet = subst (λ (c : Course). is_quiet_before_quit (opening old) c.entries ≡ true) quits.grown quits.quiet;
})

module _ {D : Type 0} (picked : ℕ → FileState → List ℕ) (tells : Bool) (time : D → ℕ) (past : D → Past) (failures : D → ℕ) (guarded : Bool) (declared : List (List ℕ)) (moment faults : ℕ) where
  -- what is over stays so
  pub over_kept : (old new : D) (b b_faults : ℕ) (lives : List Life) → b ≤ time old → HasGoneOn time past failures old new → AreOver picked tells (past old) moment faults b b_faults lives → AreOver picked tells (past new) moment faults b b_faults lives
  over_kept old new b b_faults lives le runs over = record {
    lived = lives_kept picked tells (past old) (past new) moment b lives (agrees_less b (time old) (past old) (past new) le runs.kept) over.lived;
    falls = over.falls;
    counted = over.counted;
  }

  -- an event more
  pub run_on : (actor : Actor) (event : Event) (outcome : Outcome) (taken : List Step) (lives : List Life) (old new : RegistryState D) → IsRunning picked tells time past guarded declared moment faults taken lives old
      → AddsEntry actor event outcome old.course new.course → HasGoneOn time past failures old.disk new.disk → IsRunning picked tells time past guarded declared moment faults (Do actor event ∷ taken) lives new
  run_on actor event outcome taken lives old new running adds runs = record {
    named = ap (λ (c : Course). c.names) adds.grown ∙ running.named ∙ ap (λ (c : Course). with_restored declared c.base) (sym adds.grown);
    guarded_so = ap (λ (c : Course). c.guarded) adds.grown ∙ running.guarded_so;
    as_asked = ap (λ (c : Course). moves_of c.entries) adds.grown ∙ ap (λ (m : Move). m ∷ moves_of old.course.entries) (λ i. move_by (adds.by_actor i) (adds.of_event i)) ∙ ap (λ (ms : List Move). move_by actor event ∷ ms) running.as_asked;
    ended = running.ended;
    opened = omega (arith, ap (λ (c : Course). c.moment) adds.grown, running.opened, runs.later);
    over = subst (λ (c : Course). AreOver picked tells (past new.disk) moment faults c.moment c.faults lives) (sym adds.grown) (over_kept old.disk new.disk old.course.moment old.course.faults lives running.opened runs running.over);
  }

  -- an event for which memory ran out
  pub cutting : (taken : List Step) (lives : List Life) (old new : RegistryState D) → IsRunning picked tells time past guarded declared moment faults taken lives old
      → new.course ≡ old.course → HasGoneOn time past failures old.disk new.disk → IsCutting picked tells time past guarded declared moment faults false taken lives new
  cutting taken lives old new running same runs = record {
    named = ap (λ (c : Course). c.names) same ∙ running.named ∙ ap (λ (c : Course). with_restored declared c.base) (sym same);
    guarded_so = ap (λ (c : Course). c.guarded) same ∙ running.guarded_so;
    entries = record {
      stages = [];
      work = new.course.entries;
      whole = refl;
      as_asked = ap (λ (c : Course). moves_of c.entries) same ∙ running.as_asked;
      close = refl;
      turn = inl refl;
    };
    ended = running.ended;
    over = subst (λ (c : Course). AreOver picked tells (past new.disk) moment faults c.moment c.faults lives) (sym same) (over_kept old.disk new.disk old.course.moment old.course.faults lives running.opened runs running.over);
  }

  -- an end for which memory ran out
  pub cutting_end : (taken : List Step) (lives : List Life) (old new : RegistryState D) → IsRunning picked tells time past guarded declared moment faults taken lives old
      → AddsStages old.course new.course → HasGoneOn time past failures old.disk new.disk → IsCutting picked tells time past guarded declared moment faults true taken lives new
  cutting_end taken lives old new running adds runs = record {
    named = ap (λ (c : Course). c.names) adds.grown ∙ running.named ∙ ap (λ (c : Course). with_restored declared c.base) (sym adds.grown);
    guarded_so = ap (λ (c : Course). c.guarded) adds.grown ∙ running.guarded_so;
    entries = subst (λ (c : Course). IsCutOff true c (moves_asked taken)) (sym adds.grown) (record {
      stages = adds.stages;
      work = old.course.entries;
      whole = refl;
      as_asked = running.as_asked;
      close = adds.close;
      turn = inr refl;
    });
    ended = running.ended;
    over = subst (λ (c : Course). AreOver picked tells (past new.disk) moment faults c.moment c.faults lives) (sym adds.grown) (over_kept old.disk new.disk old.course.moment old.course.faults lives running.opened runs running.over);
  }

  -- one life more is over
  pub over_more : (course : Course) (how : Ended) (old new : List Life) (disk : D) → EndsLife picked tells time past failures course how old new disk
      → AreOver picked tells (past disk) moment faults course.moment course.faults old → AreOver picked tells (past disk) moment faults (time disk) (failures disk) new
  over_more course how old new disk ends over =
      subst (λ (ls : List Life). AreOver picked tells (past disk) moment faults (time disk) (failures disk) ls) (sym ends.added)
      (go (subst (λ (c : Course). AreOver picked tells (past disk) moment faults c.moment c.faults old) (sym ends.of_course) over))
    where
      go : AreOver picked tells (past disk) moment faults ends.life.moment ends.life.faults old → AreOver picked tells (past disk) moment faults (time disk) (failures disk) (ends.life ∷ old)
      go here = record {
        lived = (ends.lived, here.lived);
        falls = (here.counted, here.falls);
        counted = subst (λ (c : Course). last_faults c ≤ failures disk) (sym ends.of_course) ends.counted;
      }

  -- a count that rose behind the end of a life rose since the last count that a life kept
  pub rose_behind : (course : Course) (how : Ended) (old new : List Life) (disk : D) (count : ℕ) → EndsLife picked tells time past failures course how old new disk → Rose (failures disk) count → Rose (faults_of faults new) count
  rose_behind course how old new disk count ends rose =
      let kept : faults_of faults new ≡ last_faults course = ap (faults_of faults) ends.added ∙ ap last_faults ends.of_course in
      omega (arith, kept, ends.counted, rose)

  -- a life is cut off
  pub cut_short : (is_closing : Bool) (taken : List Step) (old new : List Life) (r : RegistryState D) (disk : D) → IsCutting picked tells time past guarded declared moment faults is_closing taken old r
      → disk ≡ r.disk → EndsLife picked tells time past failures r.course Cut old new disk → IsCutShort picked tells time past failures guarded declared moment faults is_closing taken new disk
  cut_short is_closing taken old new r disk cutting here ends = record {
    cut = ends.life;
    earlier = old;
    whole = ends.added;
    ended_so = ends.ended_so;
    guarded_so = ap (λ (c : Course). c.guarded) ends.of_course ∙ cutting.guarded_so;
    named = ap (λ (c : Course). c.names) ends.of_course ∙ cutting.named ∙ ap (λ (c : Course). with_restored declared c.base) (sym ends.of_course);
    entries = subst (λ (c : Course). IsCutOff is_closing c (moves_asked taken)) (sym ends.of_course) cutting.entries;
    ended = cutting.ended;
    over = over_more r.course Cut old new disk ends (subst (λ (d : D). AreOver picked tells (past d) moment faults r.course.moment r.course.faults old) (sym here) cutting.over);
  }

  -- a crash
  pub crashed_over : (pick : ℕ) (taken : List Step) (old new : List Life) (r : RegistryState D) (disk : D) → IsRunning picked tells time past guarded declared moment faults taken old r
      → HasGoneOn time past failures r.disk disk → EndsLife picked tells time past failures r.course (ByCrash pick) old new disk
      → IsBetween picked tells time past failures guarded declared moment faults (Crash pick ∷ taken) new disk
  crashed_over pick taken old new r disk running runs ends = record {
    opens = refl;
    ended = subst (λ (ls : List Life). HaveEnded guarded declared (Crash pick ∷ taken) ls) (sym ends.added) (
      record {
        ended_so = ends.ended_so;
        guarded_so = ap (λ (c : Course). c.guarded) ends.of_course ∙ running.guarded_so;
        named = ap (λ (c : Course). c.names) ends.of_course ∙ running.named ∙ ap (λ (c : Course). with_restored declared c.base) (sym ends.of_course);
        done = ap (λ (c : Course). moves_of c.entries) ends.of_course ∙ running.as_asked;
      },
      running.ended,
    );
    over = over_more r.course (ByCrash pick) old new disk ends (over_kept r.disk disk r.course.moment r.course.faults old running.opened runs running.over);
  }

  -- the life that a Closer ended: what was asked, and the lives that are over then
  followed : (taken : List Step) (old : List Life) (r mid : RegistryState D) (life : Life) → IsRunning picked tells time past guarded declared moment faults taken old r
      → Quits r.course mid.course → course_of life ≡ mid.course → IsClosed (course_of life) (moves_asked taken) × (life.guarded ≡ guarded) × (life.names ≡ with_restored declared life.base)
  followed taken old r mid life running quits same = (
    subst (λ (c : Course). IsClosed c (moves_asked taken)) (sym same) (closed r.course mid.course (moves_asked taken) running.as_asked quits),
    ap (λ (c : Course). c.guarded) (same ∙ quits.grown) ∙ running.guarded_so,
    ap (λ (c : Course). c.names) (same ∙ quits.grown) ∙ running.named ∙ ap (λ (c : Course). with_restored declared c.base) (sym (same ∙ quits.grown)),
  )

  over_closed : (how : Ended) (taken : List Step) (old new : List Life) (r mid : RegistryState D) (disk : D) → IsRunning picked tells time past guarded declared moment faults taken old r
      → Quits r.course mid.course → HasGoneOn time past failures r.disk mid.disk → disk ≡ mid.disk → EndsLife picked tells time past failures mid.course how old new disk
      → AreOver picked tells (past disk) moment faults (time disk) (failures disk) new
  over_closed how taken old new r mid disk running quits runs here ends =
      over_more mid.course how old new disk ends
      (subst (λ (d : D). AreOver picked tells (past d) moment faults mid.course.moment mid.course.faults old) (sym here)
      (subst (λ (c : Course). AreOver picked tells (past mid.disk) moment faults c.moment c.faults old) (sym quits.grown) (over_kept r.disk mid.disk r.course.moment r.course.faults old running.opened runs running.over)))

  -- a restart
  pub restarted : (taken : List Step) (old new : List Life) (r mid : RegistryState D) (disk : D) → IsRunning picked tells time past guarded declared moment faults taken old r
      → Quits r.course mid.course → HasGoneOn time past failures r.disk mid.disk → disk ≡ mid.disk → EndsLife picked tells time past failures mid.course AtRestart old new disk
      → IsBetween picked tells time past failures guarded declared moment faults (Restart ∷ taken) new disk
  restarted taken old new r mid disk running quits runs here ends =
      let parts : IsClosed (course_of ends.life) (moves_asked taken) × (ends.life.guarded ≡ guarded) × (ends.life.names ≡ with_restored declared ends.life.base) = followed taken old r mid ends.life running quits ends.of_course in
      record {
        opens = refl;
        ended = subst (λ (ls : List Life). HaveEnded guarded declared (Restart ∷ taken) ls) (sym ends.added) (record { ended_so = ends.ended_so; guarded_so = parts.1; named = parts.2; done = parts.0 }, running.ended);
        over = over_closed AtRestart taken old new r mid disk running quits runs here ends;
      }

  -- the end of the script
  pub all_done : (taken : List Step) (old new : List Life) (r mid : RegistryState D) (disk : D) → IsRunning picked tells time past guarded declared moment faults taken old r
      → Quits r.course mid.course → HasGoneOn time past failures r.disk mid.disk → disk ≡ mid.disk → EndsLife picked tells time past failures mid.course Script old new disk
      → Follows guarded declared taken new × AreOver picked tells (past disk) moment faults (time disk) (failures disk) new
  all_done taken old new r mid disk running quits runs here ends =
      let parts : IsClosed (course_of ends.life) (moves_asked taken) × (ends.life.guarded ≡ guarded) × (ends.life.names ≡ with_restored declared ends.life.base) = followed taken old r mid ends.life running quits ends.of_course in (
        subst (λ (ls : List Life). Follows guarded declared taken ls) (sym ends.added) (record { ended_so = ends.ended_so; guarded_so = parts.1; named = parts.2; done = parts.0 }, running.ended),
        over_closed Script taken old new r mid disk running quits runs here ends,
      )

  -- nothing was asked yet of the life that begins after these steps
  none_asked : (steps : List Step) → opens_after steps ≡ true → [] ≡ moves_asked steps
  none_asked [] opens = refl
  none_asked (Do actor event ∷ before) opens = absurd (let odd : false ≡ true = opens in cc)
  none_asked (Crash pick ∷ before) opens = refl
  none_asked (Restart ∷ before) opens = refl

  -- a vault is opened
  pub begun : (taken : List Step) (lives : List Life) (disk : D) (r : RegistryState D) → IsBetween picked tells time past failures guarded declared moment faults taken lives disk
      → Begins time failures guarded declared disk r → HasGoneOn time past failures disk r.disk → (IsTrue tells → OnlySyncs (past r.disk) (time disk) (time r.disk)) → IsRunning picked tells time past guarded declared moment faults taken lives r
  begun taken lives disk r between begins runs syncs = record {
    named = begins.named;
    guarded_so = begins.guarded_so;
    as_asked = ap moves_of begins.empty ∙ none_asked taken between.opens;
    ended = between.ended;
    opened = omega (arith, begins.moment);
    over = record {
      lived = subst (λ b. AreLived picked tells (past r.disk) moment b lives) (sym begins.moment)
          (lives_on picked tells (past r.disk) moment (time disk) (time r.disk) lives runs.later syncs (lives_kept picked tells (past disk) (past r.disk) moment (time disk) lives runs.kept between.over.lived));
      falls = between.over.falls;
      counted = omega (arith, between.over.counted, begins.no_fewer);
    };
  }

  -- a vault isn't opened
  pub stays_between : (taken : List Step) (lives : List Life) (disk back : D) → IsBetween picked tells time past failures guarded declared moment faults taken lives disk
      → HandsBack tells time past failures disk back → IsBetween picked tells time past failures guarded declared moment faults taken lives back
  stays_between taken lives disk back between hands = record {
    opens = between.opens;
    ended = between.ended;
    over = record {
      lived = lives_on picked tells (past back) moment (time disk) (time back) lives hands.runs.later hands.syncs (lives_kept picked tells (past disk) (past back) moment (time disk) lives hands.runs.kept between.over.lived);
      falls = between.over.falls;
      counted = omega (arith, between.over.counted, hands.runs.no_fewer);
    };
  }

module _ {D : Type 0} (picked : ℕ → FileState → List ℕ) (tells : Bool) (time : D → ℕ) (past : D → Past) (failures : D → ℕ) (guarded : Bool) (declared : List (List ℕ)) where
  -- before the first life
  pub started : (lives : List Life) (disk : D) → lives ≡ [] → IsBetween picked tells time past failures guarded declared (time disk) (failures disk) [] lives disk
  started lives disk none = subst (λ (ls : List Life). IsBetween picked tells time past failures guarded declared (time disk) (failures disk) [] ls disk) (sym none) (record {
    opens = refl;
    ended = refl;
    over = record {
      lived = record { later = omega arith; syncs = λ is. at_once (past disk) (time disk) (time disk) refl };
      falls = tt;
      counted = omega arith;
    };
  })

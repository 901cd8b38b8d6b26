-- What the work and the end of a run make of its life.
use Rattle.std.specs.Prelude.{◌≡◌, ◌≤◌, ◌⊎◌, ℕ, Bool, true, false, List, [], ◌∷◌, ◌++◌, refl}
use Rattle.std.proofs.Common.{sym, ◌∙◌, ap, subst, arith, inl, inr}
use Rattle.std.proofs.lemmas.List.{append-nil}
use Rattle.hx_disk.specs.File.{FileState}
use Rattle.hx_events.specs.declared.event.Command.{Command}
use Rattle.hx_events.specs.declared.life.Ended.{Ended}
use Rattle.hx_events.specs.declared.life.Ended.TheVariants.{Script, Cut}
use Rattle.hx_events.specs.declared.life.Entry.{Entry}
use Rattle.hx_events.specs.declared.life.Life.{Life}
use Rattle.hx_rules.specs.Interleavings.{Interleaves, IsWorkOf, are_closing, script_of}
use Rattle.hx_rules.specs.Legal.{with_restored}
use Rattle.hx_script.specs.declared.script.Step.{Step}
use Rattle.hx_script.specs.Follows.{moves_of}
use Rattle.hx_lives.specs.Course.{Course, Past, Start, course_of, opening, start_of}
use Rattle.hx_lives.specs.Quiet.{is_quiet_before_quit}
use Rattle.hx_lives.specs.State.{RegistryState}
use Rattle.hx_lives.specs.Calls.{AddsStages, HasGoneOn, Quits}
use Rattle.hx_actors.specs.Work.{IsPartOf}
use Rattle.hx_play.specs.Over.{AreOver, EndsLife}
use Rattle.hx_play.specs.Running.{IsRunning}
use Rattle.hx_play.specs.Runs.{HasRun, HasRunInPart, HaveRun, HaveRunInPart, scripts_of}
use Rattle.hx_play.proofs.Disks.{gone_on_still}
use Rattle.hx_play.proofs.LifeSteps.{over_kept, over_more}

-- nothing was asked yet, so nothing was done
pub none_made : (es : List Entry) → moves_of es ≡ [] → es ≡ []
none_made [] none = refl
none_made (e ∷ es) none = absurd cc

-- no entry is a part of any work
pub nothing_made : (scripts : List (List Command)) → IsPartOf false scripts []
nothing_made scripts = record { windows = λ k. record { later = script_of k scripts; whole = sym (append-nil (script_of k scripts)) }; others = refl }

-- a life so far that is a whole run, and one that is a part of one
record IsRunOf (guarded : Bool) (declared : List (List ℕ)) (steps : List Step) (c : Course) : Type 0 where
  pub guarded_so : c.guarded ≡ guarded
  pub named : c.names ≡ with_restored declared c.base
  pub interleaves : Interleaves (opening c) false (scripts_of steps) c.entries
  pub quiet : is_quiet_before_quit (opening c) c.entries ≡ true

record IsPartOfRun (guarded : Bool) (declared : List (List ℕ)) (steps : List Step) (c : Course) : Type 0 where
  pub guarded_so : c.guarded ≡ guarded
  pub named : c.names ≡ with_restored declared c.base
  pub stages : List Entry
  pub work : List Entry
  pub whole : c.entries ≡ stages ++ work
  pub in_part : IsPartOf false (scripts_of steps) work
  pub close : are_closing (opening c) stages work ≡ true
  pub turn : (stages ≡ []) ⊎ IsWorkOf (opening c) false (scripts_of steps) work

run_of_life : (guarded : Bool) (declared : List (List ℕ)) (steps : List Step) (life : Life) → life.ended ≡ Script → IsRunOf guarded declared steps (course_of life) → HasRun guarded declared steps life
run_of_life guarded declared steps life ended run = record { ended_so = ended; guarded_so = run.guarded_so; named = run.named; interleaves = run.interleaves; quiet = run.quiet }

part_of_life : (guarded : Bool) (declared : List (List ℕ)) (steps : List Step) (life : Life) → life.ended ≡ Cut → IsPartOfRun guarded declared steps (course_of life) → HasRunInPart guarded declared steps life
part_of_life guarded declared steps life ended part = record { ended_so = ended; guarded_so = part.guarded_so; named = part.named; stages = part.stages; work = part.work; whole = part.whole; in_part = part.in_part; close = part.close; turn = part.turn }

-- The Closer has ended the work.
work_ended : (guarded : Bool) (declared : List (List ℕ)) (steps : List Step) (mid last : Course) → mid.guarded ≡ guarded → mid.names ≡ with_restored declared mid.base → IsWorkOf (opening mid) false (scripts_of steps) mid.entries → Quits mid last → IsRunOf guarded declared steps last
work_ended guarded declared steps mid last guarded_so named is_work quits = subst (IsRunOf guarded declared steps) (sym quits.grown) (record {
  guarded_so = guarded_so;
  named = named;
  interleaves = record { end = quits.end; work = mid.entries; whole = refl; is_work = is_work; ends = quits.ends };
  quiet = subst (λ (c : Course). is_quiet_before_quit (opening mid) c.entries ≡ true) quits.grown quits.quiet;
})

-- The Closer hasn't come to its end.
work_cut : (guarded : Bool) (declared : List (List ℕ)) (steps : List Step) (mid last : Course) → mid.guarded ≡ guarded → mid.names ≡ with_restored declared mid.base → IsPartOf false (scripts_of steps) mid.entries → IsWorkOf (opening mid) false (scripts_of steps) mid.entries → AddsStages mid last
    → IsPartOfRun guarded declared steps last
work_cut guarded declared steps mid last guarded_so named in_part is_work adds = subst (IsPartOfRun guarded declared steps) (sym adds.grown) (record {
  guarded_so = guarded_so;
  named = named;
  stages = adds.stages;
  work = mid.entries;
  whole = refl;
  in_part = in_part;
  close = adds.close;
  turn = inr is_work;
})

part_left : (guarded : Bool) (declared : List (List ℕ)) (steps : List Step) (mid : Course) → mid.guarded ≡ guarded → mid.names ≡ with_restored declared mid.base → IsPartOf false (scripts_of steps) mid.entries → IsPartOfRun guarded declared steps mid
part_left guarded declared steps mid guarded_so named in_part = record {
  guarded_so = guarded_so;
  named = named;
  stages = [];
  work = mid.entries;
  whole = refl;
  in_part = in_part;
  close = refl;
  turn = inl refl;
}

module _ {D : Type 0} (picked : ℕ → FileState → List ℕ) (tells : Bool) (time : D → ℕ) (past : D → Past) (failures : D → ℕ) (guarded : Bool) (declared : List (List ℕ)) (moment faults : ℕ) where
  -- The work of a run is done, or a part of it. No life has ended yet.
  pub record HasWorked (lives : List Life) (r : RegistryState D) : Type 0 where
    pub guarded_so : r.course.guarded ≡ guarded
    pub named : r.course.names ≡ with_restored declared r.course.base
    pub none : lives ≡ []
    pub opened : r.course.moment ≤ time r.disk
    pub over : AreOver picked tells (past r.disk) moment faults r.course.moment r.course.faults lives

  pub worked : (lives : List Life) (r mid : RegistryState D) → IsRunning picked tells time past guarded declared moment faults [] lives r → start_of mid.course ≡ start_of r.course → HasGoneOn time past failures r.disk mid.disk → HasWorked lives mid
  worked lives r mid running same runs = record {
    guarded_so = ap (λ (s : Start). s.guarded) same ∙ running.guarded_so;
    named = ap (λ (s : Start). s.names) same ∙ running.named ∙ ap (λ (s : Start). with_restored declared s.base) (sym same);
    none = running.ended;
    opened = omega (arith, ap (λ (s : Start). s.moment) same, running.opened, runs.later);
    over = subst (λ (s : Start). AreOver picked tells (past mid.disk) moment faults s.moment s.faults lives) (sym same)
        (over_kept picked tells time past failures guarded declared moment faults r.disk mid.disk r.course.moment r.course.faults lives running.opened runs running.over);
  }

  -- the life that ends is the only one
  ended_run : (steps : List Step) (old new : List Life) (c : Course) (disk : D) → old ≡ [] → IsRunOf guarded declared steps c → EndsLife picked tells time past failures c Script old new disk → HaveRun guarded declared steps new
  ended_run steps old new c disk none run ends = subst (HaveRun guarded declared steps) (sym (ends.added ∙ ap (λ (ls : List Life). ends.life ∷ ls) none)) (run_of_life guarded declared steps ends.life ends.ended_so (subst (IsRunOf guarded declared steps) (sym ends.of_course) run))

  cut_run : (steps : List Step) (old new : List Life) (c : Course) (disk : D) → old ≡ [] → IsPartOfRun guarded declared steps c → EndsLife picked tells time past failures c Cut old new disk → HaveRunInPart guarded declared steps new
  cut_run steps old new c disk none part ends = subst (HaveRunInPart guarded declared steps) (sym (ends.added ∙ ap (λ (ls : List Life). ends.life ∷ ls) none)) (part_of_life guarded declared steps ends.life ends.ended_so (subst (IsPartOfRun guarded declared steps) (sym ends.of_course) part))

  pub run_done : (steps : List Step) (old new : List Life) (mid last : RegistryState D) (disk : D) → HasWorked old mid → IsWorkOf (opening mid.course) false (scripts_of steps) mid.course.entries → Quits mid.course last.course → EndsLife picked tells time past failures last.course Script old new disk
      → HaveRun guarded declared steps new
  run_done steps old new mid last disk has is_work quits ends = ended_run steps old new last.course disk has.none (work_ended guarded declared steps mid.course last.course has.guarded_so has.named is_work quits) ends

  pub run_cut : (steps : List Step) (old new : List Life) (mid : RegistryState D) (disk : D) → HasWorked old mid → IsPartOf false (scripts_of steps) mid.course.entries → EndsLife picked tells time past failures mid.course Cut old new disk → HaveRunInPart guarded declared steps new
  run_cut steps old new mid disk has in_part ends = cut_run steps old new mid.course disk has.none (part_left guarded declared steps mid.course has.guarded_so has.named in_part) ends

  pub run_cut_end : (steps : List Step) (old new : List Life) (mid last : RegistryState D) (disk : D) → HasWorked old mid → IsPartOf false (scripts_of steps) mid.course.entries → IsWorkOf (opening mid.course) false (scripts_of steps) mid.course.entries → AddsStages mid.course last.course
      → EndsLife picked tells time past failures last.course Cut old new disk → HaveRunInPart guarded declared steps new
  run_cut_end steps old new mid last disk has in_part is_work adds ends = cut_run steps old new last.course disk has.none (work_cut guarded declared steps mid.course last.course has.guarded_so has.named in_part is_work adds) ends

  -- what holds of the lives then
  over_then : (how : Ended) (old new : List Life) (mid last : RegistryState D) (disk : D) → HasWorked old mid → start_of last.course ≡ start_of mid.course → HasGoneOn time past failures mid.disk last.disk → disk ≡ last.disk → EndsLife picked tells time past failures last.course how old new disk
      → AreOver picked tells (past disk) moment faults (time disk) (failures disk) new
  over_then how old new mid last disk has same runs here ends =
      over_more picked tells time past failures guarded declared moment faults last.course how old new disk ends
      (subst (λ (d : D). AreOver picked tells (past d) moment faults last.course.moment last.course.faults old) (sym here)
      (subst (λ (s : Start). AreOver picked tells (past last.disk) moment faults s.moment s.faults old) (sym same)
      (over_kept picked tells time past failures guarded declared moment faults mid.disk last.disk mid.course.moment mid.course.faults old has.opened runs has.over)))

  pub over_done : (old new : List Life) (mid last : RegistryState D) (disk : D) → HasWorked old mid → Quits mid.course last.course → HasGoneOn time past failures mid.disk last.disk → disk ≡ last.disk → EndsLife picked tells time past failures last.course Script old new disk
      → AreOver picked tells (past disk) moment faults (time disk) (failures disk) new
  over_done old new mid last disk has quits runs here ends = over_then Script old new mid last disk has (ap start_of quits.grown) runs here ends

  pub over_cut : (old new : List Life) (mid : RegistryState D) (disk : D) → HasWorked old mid → disk ≡ mid.disk → EndsLife picked tells time past failures mid.course Cut old new disk
      → AreOver picked tells (past disk) moment faults (time disk) (failures disk) new
  over_cut old new mid disk has here ends = over_then Cut old new mid mid disk has refl (gone_on_still time past failures mid.disk mid.disk refl) here ends

  pub over_cut_end : (old new : List Life) (mid last : RegistryState D) (disk : D) → HasWorked old mid → AddsStages mid.course last.course → HasGoneOn time past failures mid.disk last.disk → disk ≡ last.disk → EndsLife picked tells time past failures last.course Cut old new disk
      → AreOver picked tells (past disk) moment faults (time disk) (failures disk) new
  over_cut_end old new mid last disk has adds runs here ends = over_then Cut old new mid last disk has (ap start_of adds.grown) runs here ends

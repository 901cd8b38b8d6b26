-- What each plant makes of the files.
use Rattle.std.specs.Prelude.{◌≡◌, ◌≢◌, ◌≤◌, ◌==◌, ℕ, Bool, true, false, IsTrue, List, [], ◌∷◌, ◌++◌, length, take, Option, Some, None, MatchOption, Result, Ok, Err, OnOk}
use Rattle.std.proofs.Common.{sym, ◌∙◌, ap, subst, arith, ⊎_elim}
use Rattle.std.proofs.lemmas.Bool.{cases_lt}
use Rattle.std.proofs.lemmas.Bool.Decides.{eqb_tells}
use Rattle.std.proofs.lemmas.Grind.{common_steps}
use Rattle.hx_disk.specs.File.{FileState, Wrote, WasCut, Synced}
use Rattle.hx_disk.specs.Disk.{Through}
use Rattle.hx_disk.specs.Images.{rest_settled}
use Rattle.hx_disk.specs.Overlay.{overlaid}
use Rattle.hx_slots.specs.Gate.{IsAnyState}
use Rattle.hx_events.specs.declared.life.Life.{Life}
use Rattle.hx_script.specs.declared.script.Plant.{Plant}
use Rattle.hx_lives.specs.Course.{Past}
use Rattle.hx_lives.specs.Calls.{HasGoneOn}
use Rattle.hx_lives.specs.Carried.{AgreesTo}
use Rattle.hx_play.specs.Over.{AreOver}
use Rattle.hx_play.specs.Played.{HaveLived}
use Rattle.hx_play.specs.Planting.{HasPlanted, IsPlantedWith, OnlyPlants, planted}

cut_gives : (old bytes : List ℕ) → take (length bytes) (overlaid old 0 bytes) ≡ bytes
cut_gives old bytes = grind (arith, common_steps)

-- written, cut and synced
pub planted_with : {E : Type 0} (r : Result Unit E) (bytes : List ℕ) (s0 s1 s2 s3 : FileState) → Wrote 0 bytes s0 s1 → WasCut (length bytes) s1 s2 → OnOk r (Synced s2 s3) → OnOk r (IsPlantedWith bytes s3)
planted_with (Err e) bytes s0 s1 s2 s3 wrote cut synced = tt
planted_with (Ok x) bytes s0 s1 s2 s3 wrote cut synced = record {
  reading = synced.reading ∙ cut.reading ∙ ap (take (length bytes)) wrote.reading ∙ cut_gives s0.reading bytes;
  settled = rest_settled s3 synced.rest;
}

-- a file that the newest plant writes, and one that it doesn't
planted_here : (plant : Plant) (earlier : List Plant) (f : ℕ) → (plant.file == f) ≡ true → planted (plant ∷ earlier) f ≡ Some plant.bytes
planted_here plant earlier f is = rw is

planted_apart : (plant : Plant) (earlier : List Plant) (f : ℕ) → (plant.file == f) ≡ false → planted (plant ∷ earlier) f ≡ planted earlier f
planted_apart plant earlier f is = rw is

-- a file that no plant writes
unwritten : (plant : Plant) (earlier : List Plant) (f : ℕ) → planted (plant ∷ earlier) f ≡ None → (f ≢ plant.file) × (planted earlier f ≡ None)
unwritten plant earlier f none = ⊎_elim
    (λ same. absurd (let odd : Some plant.bytes ≡ None = sym (planted_here plant earlier f same.0) ∙ none in cc))
    (λ apart. (λ is. apart.1 (sym is), sym (planted_apart plant earlier f apart.0) ∙ none))
    (eqb_tells plant.file f)

-- what the later plants don't write either
pub unwritten_by : (later earlier : List Plant) (f : ℕ) → planted (later ++ earlier) f ≡ None → planted earlier f ≡ None
unwritten_by [] earlier f none = none
unwritten_by (plant ∷ later) earlier f none = unwritten_by later earlier f (unwritten plant (later ++ earlier) f none).1

-- Where later plants come too, no more files have changed.
pub only_by_all : (past : Past) (later earlier : List Plant) (a b : ℕ) → OnlyPlants past earlier a b → OnlyPlants past (later ++ earlier) a b
only_by_all past later earlier a b only = record { later = only.later; others = λ t f from to none. only.others t f from to (unwritten_by later earlier f none) }

module _ {D : Type 0} (time : D → ℕ) (past : D → Past) (now : D → ℕ → FileState) (present : (d : D) (f : ℕ) → past d (time d) f ≡ now d f) where
  -- before the first plant
  pub only_none : (d : D) → OnlyPlants (past d) [] (time d) (time d)
  only_none d = record { later = omega arith; others = λ t f from to none. ap (λ n. past d n f) (omega (arith, from, to)) }

  -- one plant more, or one that failed
  pub only_more : (a : ℕ) (plant : Plant) (earlier : List Plant) (mid new : D) → OnlyPlants (past mid) earlier a (time mid) → Through time past plant.file IsAnyState mid new → OnlyPlants (past new) (plant ∷ earlier) a (time new)
  only_more a plant earlier mid new only run = record {
    later = omega (arith, only.later, run.later);
    others = λ t f from to none.
        let apart : f ≢ plant.file = (unwritten plant earlier f none).0 in
        let free : planted earlier f ≡ None = (unwritten plant earlier f none).1 in
        ⊎_elim
        (λ after. run.others t f apart (omega (arith, after)) to ∙ only.others (time mid) f only.later (omega arith) free ∙ sym (run.kept a f only.later))
        (λ before. run.kept t f before ∙ only.others t f from before free ∙ sym (run.kept a f only.later))
        (cases_lt (time mid) t);
  }

  pub has_more : (plant : Plant) (earlier : List Plant) (mid new : D) → HasPlanted earlier (now mid) → Through time past plant.file IsAnyState mid new → IsPlantedWith plant.bytes (now new plant.file) → HasPlanted (plant ∷ earlier) (now new)
  has_more plant earlier mid new has run here f = ⊎_elim
      (λ same. subst (λ (o : Option (List ℕ)). MatchOption o (Unit {0}) (λ bytes. IsPlantedWith bytes (now new f))) (sym (planted_here plant earlier f same.0)) (subst (λ n. IsPlantedWith plant.bytes (now new n)) same.1 here))
      (λ apart. subst (λ (o : Option (List ℕ)). MatchOption o (Unit {0}) (λ bytes. IsPlantedWith bytes (now new f))) (sym (planted_apart plant earlier f apart.0))
      (subst (λ (s : FileState). MatchOption (planted earlier f) (Unit {0}) (λ bytes. IsPlantedWith bytes s)) (sym (stays f (λ is. apart.1 (sym is)))) (has f)))
      (eqb_tells plant.file f)
    where
      stays : (f : ℕ) → f ≢ plant.file → now new f ≡ now mid f
      stays f apart = sym (present new f) ∙ run.others (time new) f apart run.later (omega arith) ∙ present mid f

  -- how a run on one file lets the disk go on
  pub gone_on_by : (failures : D → ℕ) (file : ℕ) (old new : D) → Through time past file IsAnyState old new → failures old ≤ failures new → HasGoneOn time past failures old new
  gone_on_by failures file old new run fewer = record { later = run.later; kept = run.kept; no_fewer = fewer }

-- the lives behind planting, which left the count of faults as it was
pub lived_behind : (picked : ℕ → FileState → List ℕ) (tells : Bool) (old new : Past) (plants : List Plant) (a first b start planted_faults end : ℕ) (lives : List Life) → AgreesTo first old new → planted_faults ≡ start
    → OnlyPlants old plants a first → (IsTrue tells → HasPlanted plants (old first)) → AreOver picked tells new first planted_faults b end lives → HaveLived picked tells new plants a start b end lives
lived_behind picked tells old new plants a first b start planted_faults end lives kept same only has over = record {
  first = first;
  only = record { later = only.later; others = λ t f from to none. kept t f to ∙ only.others t f from to none ∙ sym (kept a f only.later) };
  has = λ is f. subst (λ (s : FileState). MatchOption (planted plants f) (Unit {0}) (λ bytes. IsPlantedWith bytes s)) (sym (kept first f (omega arith))) (has is f);
  over = subst (λ n. AreOver picked tells new first n b end lives) same over;
}

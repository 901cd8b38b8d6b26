-- What a registry keeps of its life is what holds of the life once it has ended.
use Rattle.std.specs.Prelude.{◌≡◌, ◌≤◌, ℕ, Bool, IsTrue, List, refl}
use Rattle.std.proofs.Common.{sym, ◌∙◌, ap, subst, arith}
use Rattle.hx_disk.specs.File.{FileState, Crashed, IsImage}
use Rattle.hx_disk.specs.Disk.{Elapses, ChangesNothing}
use Rattle.hx_events.specs.declared.life.Ended.{Ended}
use Rattle.hx_events.specs.declared.life.Ended.TheVariants.{Script, Restart, Crash, Cut}
use Rattle.hx_events.specs.declared.life.Life.{Life}
use Rattle.hx_lives.specs.Course.{Course, start_of, Past, course_of, last_moment}
use Rattle.hx_lives.specs.Holds.{LifeHolds}
use Rattle.hx_lives.specs.Carried.{life_kept}
use Rattle.hx_lives.specs.Chained.{ReadsSame, OnlySyncs, GoesOn, end_of, IsLived}
use Rattle.hx_lives.specs.Lasting.{at_once, opened_kept, opened_before}
use Rattle.hx_lives.specs.Calls.{IsLivedSoFar, IsNoCrash}

module _ {D : Type 0} (picked : ℕ → FileState → List ℕ) (tells : Bool) (time : D → ℕ) (past : D → Past) (now : D → ℕ → FileState) (failures : D → ℕ) (present : (d : D) (f : ℕ) → past d (time d) f ≡ now d f) where
  pub finished : (course : Course) (disk : D) (life : Life) → course_of life ≡ course → IsNoCrash life.ended → IsLivedSoFar tells time past failures course disk → IsLived picked tells (past disk) (time disk) life
  finished course disk life same no_crash keeps = go (subst (λ (c : Course). IsLivedSoFar tells time past failures c disk) (sym same) keeps)
    where
      holds : (ended : Ended) → IsNoCrash ended → LifeHolds tells (past disk) (time disk) (course_of life) → LifeHolds tells (past disk) (end_of ended (last_moment (course_of life)) (time disk)) (course_of life)
      holds (Crash pick) kind so_far = absurd kind
      holds Restart kind so_far = so_far
      holds Script kind so_far = so_far
      holds Cut kind so_far = so_far

      goes : (ended : Ended) → IsNoCrash ended → OnlySyncs (past disk) (last_moment (course_of life)) (time disk) → GoesOn picked (past disk) ended (last_moment (course_of life)) (time disk)
      goes (Crash pick) kind so_far = absurd kind
      goes Restart kind so_far = so_far
      goes Script kind so_far = so_far
      goes Cut kind so_far = so_far

      go : IsLivedSoFar tells time past failures (course_of life) disk → IsLived picked tells (past disk) (time disk) life
      go kept = record {
        holds = holds life.ended no_crash kept.holds;
        reached = kept.holds.ended;
        opened = kept.opened;
        goes_on = λ is. goes life.ended no_crash (at_once (past disk) (last_moment (course_of life)) (time disk) (sym kept.present));
      }

  pub crashed : (course : Course) (old new : D) (pick : ℕ) (life : Life) → course_of life ≡ course → life.ended ≡ Crash pick → IsLivedSoFar tells time past failures course old
      → Elapses time past old new → (IsTrue tells → (f : ℕ) → Crashed (picked pick (now old f)) (now new f)) → IsLived picked tells (past new) (time new) life
  crashed course old new pick life same by_crash keeps goes left = go (subst (λ (c : Course). IsLivedSoFar tells time past failures c old) (sym same) keeps)
    where
      go : IsLivedSoFar tells time past failures (course_of life) old → IsLived picked tells (past new) (time new) life
      go kept = record {
        holds = subst (λ (ended : Ended). LifeHolds tells (past new) (end_of ended (last_moment (course_of life)) (time new)) (course_of life)) (sym by_crash)
            (subst (λ z. LifeHolds tells (past new) z (course_of life)) kept.present (life_kept tells (time old) (past old) (past new) goes.kept (course_of life) kept.holds));
        reached = omega (arith, kept.holds.ended, goes.later);
        opened = λ is. opened_kept (time old) (past old) (past new) goes.kept (start_of (course_of life)) (omega (arith, opened_before (course_of life) tells (past old) (time old) kept.holds, kept.holds.ended)) (kept.opened is);
        goes_on = λ is. subst (λ (ended : Ended). GoesOn picked (past new) ended (last_moment (course_of life)) (time new)) (sym by_crash) (record {
          after = time new;
          later = omega (arith, kept.present, goes.later);
          by_one = omega (arith, kept.present, goes.by_one);
          before = omega arith;
          left = λ f.
              let was : past new (last_moment (course_of life)) f ≡ now old f = ap (λ n. past new n f) (sym kept.present) ∙ goes.kept (time old) f (omega arith) ∙ present old f in
              subst (λ (s : FileState). Crashed (picked pick s) (past new (time new) f)) (sym was)
              (subst (Crashed (picked pick (now old f))) (sym (present new f)) (left is f));
          syncs = at_once (past new) (time new) (time new) refl;
        });
      }

  pub cut_off : (course : Course) (old new : D) (life : Life) → course_of life ≡ course → life.ended ≡ Cut → IsLivedSoFar tells time past failures course old → ChangesNothing time past now old new → IsLived picked tells (past new) (time new) life
  cut_off course old new life same by_cut keeps none = go (subst (λ (c : Course). IsLivedSoFar tells time past failures c old) (sym same) keeps)
    where
      go : IsLivedSoFar tells time past failures (course_of life) old → IsLived picked tells (past new) (time new) life
      go kept = record {
        holds = subst (λ (ended : Ended). LifeHolds tells (past new) (end_of ended (last_moment (course_of life)) (time new)) (course_of life)) (sym by_cut)
            (subst (λ z. LifeHolds tells (past new) z (course_of life)) (sym none.still) (life_kept tells (time old) (past old) (past new) none.kept (course_of life) kept.holds));
        reached = omega (arith, kept.holds.ended, none.still);
        opened = λ is. opened_kept (time old) (past old) (past new) none.kept (start_of (course_of life)) (omega (arith, opened_before (course_of life) tells (past old) (time old) kept.holds, kept.holds.ended)) (kept.opened is);
        goes_on = λ is. subst (λ (ended : Ended). GoesOn picked (past new) ended (last_moment (course_of life)) (time new)) (sym by_cut)
            (at_once (past new) (last_moment (course_of life)) (time new) (omega (arith, kept.present, none.still)));
      }

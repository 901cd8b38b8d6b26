-- What holds of lives that have ended stays so while the disk goes on.
use Rattle.std.specs.Prelude.{◌≡◌, ◌≤◌, ℕ, Bool, IsTrue, List, [], ◌∷◌, refl}
use Rattle.std.proofs.Common.{sym, ◌∙◌, ap, subst, arith, ⊎_elim}
use Rattle.std.proofs.lemmas.Bool.{cases_lt}
use Rattle.hx_disk.specs.File.{FileState, IsImage, IsSettled, Crashed}
use Rattle.hx_events.specs.declared.life.Ended.{Ended}
use Rattle.hx_events.specs.declared.life.Ended.TheVariants.{Script, Restart, Crash, Cut}
use Rattle.hx_events.specs.declared.life.Life.{Life}
use Rattle.hx_lives.specs.Course.{Course, Start, start_of, Past, course_of, last_moment}
use Rattle.hx_lives.specs.CrashSafe.{IsSafe}
use Rattle.hx_restore.specs.Values.{restored}
use Rattle.hx_lives.specs.Holds.{LifeHolds, readings}
use Rattle.hx_lives.specs.Chained.{ReadsSame, OnlySyncs, IsOpened, GoesByCrash, GoesOn, end_of, IsLived, AreLived}
use Rattle.hx_lives.specs.Carried.{AgreesTo, files_same, life_kept, caused_first}

-- agreeing up to a moment is agreeing up to an earlier one
pub agrees_less : (a z : ℕ) (old new : Past) → a ≤ z → AgreesTo z old new → AgreesTo a old new
agrees_less a z old new before kept = λ t f le. kept t f (omega (arith, le, before))

pub syncs_kept : (z a b : ℕ) (old new : Past) → AgreesTo z old new → a ≤ z → b ≤ z → OnlySyncs old a b → OnlySyncs new a b
syncs_kept z a b old new kept first last syncs = record {
  reads = λ t f from to.
      let here : new t f ≡ old t f = kept t f (omega (arith, to, last)) in
      let there : new a f ≡ old a f = kept a f first in
      subst (λ (s : FileState). ReadsSame s (new t f)) (sym there) (subst (ReadsSame (old a f)) (sym here) (syncs.reads t f from to));
  user = λ t f from to user. kept t f (omega (arith, to, last)) ∙ syncs.user t f from to user ∙ sym (kept a f first);
  no_new = λ t f image from to is.
      subst (λ (s : FileState). IsImage s image) (sym (kept a f first)) (syncs.no_new t f image from to (subst (λ (s : FileState). IsImage s image) (kept t f (omega (arith, to, last))) is));
}

pub opened_kept : (z : ℕ) (old new : Past) → AgreesTo z old new → (c : Start) → c.moment ≤ z → IsOpened old c → IsOpened new c
opened_kept z old new kept c le opened = record {
  base = opened.base ∙ ap (λ (files : ℕ → FileState). restored (readings files)) (sym (files_same z old new kept c.moment le));
  settled = λ f slot. subst IsSettled (sym (kept c.moment f le)) (opened.settled f slot);
}

crash_kept : (picked : ℕ → FileState → List ℕ) (old new : Past) (pick z b : ℕ) → AgreesTo b old new → GoesByCrash picked old pick z b → GoesByCrash picked new pick z b
crash_kept picked old new pick z b kept goes = record {
  after = goes.after;
  later = goes.later;
  by_one = goes.by_one;
  before = goes.before;
  left = λ f. subst (λ (s : FileState). Crashed (picked pick s) (new goes.after f)) (sym (kept z f (omega (arith, goes.later, goes.before))))
      (subst (Crashed (picked pick (old z f))) (sym (kept goes.after f goes.before)) (goes.left f));
  syncs = syncs_kept b goes.after b old new kept goes.before (omega arith) goes.syncs;
}

goes_kept : (picked : ℕ → FileState → List ℕ) (old new : Past) (ended : Ended) (z b : ℕ) → z ≤ b → AgreesTo b old new → GoesOn picked old ended z b → GoesOn picked new ended z b
goes_kept picked old new (Crash pick) z b le kept goes = crash_kept picked old new pick z b kept goes
goes_kept picked old new Restart z b le kept goes = syncs_kept b z b old new kept le (omega arith) goes
goes_kept picked old new Script z b le kept goes = syncs_kept b z b old new kept le (omega arith) goes
goes_kept picked old new Cut z b le kept goes = syncs_kept b z b old new kept le (omega arith) goes

end_by : (ended : Ended) (last b : ℕ) → last ≤ b → end_of ended last b ≤ b
end_by (Crash pick) last b le = le
end_by Restart last b le = omega arith
end_by Script last b le = omega arith
end_by Cut last b le = omega arith

pub opened_before : (c : Course) (tells : Bool) (past : Past) (z : ℕ) → LifeHolds tells past z c → c.moment ≤ last_moment c
opened_before c tells past z holds = caused_first c.moment c.faults c.entries holds.caused

lived_kept : (picked : ℕ → FileState → List ℕ) (tells : Bool) (old new : Past) (b : ℕ) (life : Life) → AgreesTo b old new → IsLived picked tells old b life → IsLived picked tells new b life
lived_kept picked tells old new b life kept lived =
    let within : end_of life.ended (last_moment (course_of life)) b ≤ b = end_by life.ended (last_moment (course_of life)) b lived.reached in
    let first : (course_of life).moment ≤ last_moment (course_of life) = opened_before (course_of life) tells old (end_of life.ended (last_moment (course_of life)) b) lived.holds in
    record {
      holds = life_kept tells (end_of life.ended (last_moment (course_of life)) b) old new (agrees_less (end_of life.ended (last_moment (course_of life)) b) b old new within kept) (course_of life) lived.holds;
      reached = lived.reached;
      opened = λ is. opened_kept b old new kept (start_of (course_of life)) (omega (arith, first, lived.reached)) (lived.opened is);
      goes_on = λ is. goes_kept picked old new life.ended (last_moment (course_of life)) b lived.reached kept (lived.goes_on is);
    }

-- All lives that have ended hold for good.
pub lives_kept : (picked : ℕ → FileState → List ℕ) (tells : Bool) (old new : Past) (start b : ℕ) (lives : List Life) → AgreesTo b old new → AreLived picked tells old start b lives → AreLived picked tells new start b lives
lives_kept picked tells old new start b [] kept begins = record {
  later = begins.later;
  syncs = λ is. syncs_kept b start b old new kept begins.later (omega arith) (begins.syncs is);
}
lives_kept picked tells old new start b (life ∷ earlier) kept lived =
    let first : (course_of life).moment ≤ last_moment (course_of life) = opened_before (course_of life) tells old (end_of life.ended (last_moment (course_of life)) b) lived.0.holds in (
      lived_kept picked tells old new b life kept lived.0,
      lives_kept picked tells old new start life.moment earlier (agrees_less life.moment b old new (omega (arith, first, lived.0.reached)) kept) lived.1,
    )

-- syncs behind syncs
pub syncs_joined : (past : Past) (a b z : ℕ) → a ≤ b → OnlySyncs past a b → OnlySyncs past b z → OnlySyncs past a z
syncs_joined past a b z le first second = record {
  reads = λ t f from to. ⊎_elim
      (λ after.
      let one : ReadsSame (past a f) (past b f) = first.reads b f le (omega arith) in
      let two : ReadsSame (past b f) (past t f) = second.reads t f (omega (arith, after)) to in
      record { reading = two.reading ∙ one.reading; stat = two.stat ∙ one.stat })
      (λ before. first.reads t f from before)
      (cases_lt b t);
  user = λ t f from to user. ⊎_elim
      (λ after. second.user t f (omega (arith, after)) to user ∙ first.user b f le (omega arith) user)
      (λ before. first.user t f from before user)
      (cases_lt b t);
  no_new = λ t f image from to is. ⊎_elim
      (λ after. first.no_new b f image le (omega arith) (second.no_new t f image (omega (arith, after)) to is))
      (λ before. first.no_new t f image from before is)
      (cases_lt b t);
}

-- A life goes on to hold while the disk does nothing but sync.
life_on : (tells : Bool) (past : Past) (z b : ℕ) (c : Course) → z ≤ b → (IsTrue tells → OnlySyncs past z b) → LifeHolds tells past z c → LifeHolds tells past b c
unfolding IsSafe
life_on tells past z b c le syncs life = record {
  legal = life.legal;
  caused = life.caused;
  ended = omega (arith, life.ended, le);
  told = λ is. record {
    entries = (life.told is).entries;
    alone = λ t f from to user. ⊎_elim
        (λ after. (syncs is).user t f (omega (arith, after)) to user ∙ (life.told is).alone z f life.ended (omega arith) user)
        (λ before. (life.told is).alone t f from before user)
        (cases_lt z t);
  };
  safe = λ is. record {
    entries = (life.safe is).entries;
    behind = λ t from to. ⊎_elim
        (λ after image left. (life.safe is).behind z life.ended (omega arith) image (λ f. (syncs is).no_new t f (image f) (omega (arith, after)) to (left f)))
        (λ before. (life.safe is).behind t from before)
        (cases_lt z t);
  };
}

-- The end of a life lasts up to the next opening, or to the return.
pub lived_on : (picked : ℕ → FileState → List ℕ) (tells : Bool) (past : Past) (b z : ℕ) (life : Life) → b ≤ z → (IsTrue tells → OnlySyncs past b z) → IsLived picked tells past b life → IsLived picked tells past z life
lived_on picked tells past b z life le syncs lived = record {
  holds = holds life.ended lived.holds;
  reached = omega (arith, lived.reached, le);
  opened = lived.opened;
  goes_on = λ is. goes life.ended (syncs is) (lived.goes_on is);
}
  where
    holds : (ended : Ended) → LifeHolds tells past (end_of ended (last_moment (course_of life)) b) (course_of life) → LifeHolds tells past (end_of ended (last_moment (course_of life)) z) (course_of life)
    holds (Crash pick) so_far = so_far
    holds Restart so_far = life_on tells past b z (course_of life) le syncs so_far
    holds Script so_far = life_on tells past b z (course_of life) le syncs so_far
    holds Cut so_far = life_on tells past b z (course_of life) le syncs so_far

    goes : (ended : Ended) → OnlySyncs past b z → GoesOn picked past ended (last_moment (course_of life)) b → GoesOn picked past ended (last_moment (course_of life)) z
    goes (Crash pick) more so_far = record {
      after = so_far.after;
      later = so_far.later;
      by_one = so_far.by_one;
      before = omega (arith, so_far.before, le);
      left = so_far.left;
      syncs = syncs_joined past so_far.after b z so_far.before so_far.syncs more;
    }
    goes Restart more so_far = syncs_joined past (last_moment (course_of life)) b z lived.reached so_far more
    goes Script more so_far = syncs_joined past (last_moment (course_of life)) b z lived.reached so_far more
    goes Cut more so_far = syncs_joined past (last_moment (course_of life)) b z lived.reached so_far more

-- the same of all lives
pub lives_on : (picked : ℕ → FileState → List ℕ) (tells : Bool) (past : Past) (start b z : ℕ) (lives : List Life) → b ≤ z → (IsTrue tells → OnlySyncs past b z) → AreLived picked tells past start b lives → AreLived picked tells past start z lives
lives_on picked tells past start b z [] le syncs begins = record {
  later = omega (arith, begins.later, le);
  syncs = λ is. syncs_joined past start b z begins.later (begins.syncs is) (syncs is);
}
lives_on picked tells past start b z (life ∷ earlier) le syncs lived = (lived_on picked tells past b z life le syncs lived.0, lived.1)

-- nothing happens between a moment and itself
pub at_once : (past : Past) (a b : ℕ) → a ≡ b → OnlySyncs past a b
at_once past a b same = record {
  reads = λ t f from to. subst (λ n. ReadsSame (past a f) (past n f)) (at t from to) (record { reading = refl; stat = refl });
  user = λ t f from to user. ap (λ n. past n f) (sym (at t from to));
  no_new = λ t f image from to is. subst (λ n. IsImage (past n f) image) (sym (at t from to)) is;
}
  where
    at : (t : ℕ) → a ≤ t → t ≤ b → a ≡ t
    at t from to = omega (arith, from, to, same)

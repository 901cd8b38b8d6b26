-- What a vault stage of a resource makes of the invariant, at each moment and at its end.
use Rattle.std.specs.Prelude.{◌≡◌, ◌≢◌, ℕ, ◌+◌, Bool, true, false, List, [], ◌∷◌, ◌++◌, length, Option, Some, None, refl}
use Rattle.std.proofs.Common.{sym, ◌∙◌, ap, subst, arith}
use Rattle.hx_disk.specs.File.{FileState}
use Rattle.hx_events.specs.declared.backup.Side.{Side}
use Rattle.hx_events.specs.declared.backup.Side.TheVariants.{A, B}
use Rattle.hx_events.specs.declared.event.Stage.TheVariants.{Prepare, Body, Open, Fade, Drop}
use Rattle.hx_events.specs.declared.life.Entry.{Entry}
use Rattle.hx_events.specs.declared.outcome.Outcome.TheVariants.{StageOk, StageFault}
use Rattle.hx_rules.specs.Entries.{deed, own, is_of}
use Rattle.hx_rules.specs.Backups.{Snapshot, Begun, taken, prepared, one_block_more}
use Rattle.hx_rules.specs.Due.{next_stage}
use Rattle.hx_rules.specs.Legal.{restored_at}
use Rattle.hx_rules.specs.Marks.{Marks}
use Rattle.hx_rules_laws.specs.Marks.{marks_change, still, wanted_with}
use Rattle.hx_slots.specs.Files.{file_of}
use Rattle.hx_vault.specs.declared.pair.Pair.{Pair}
use Rattle.hx_vault.specs.Sides.{SideState, Shut, Still, IsSide, is_closed, loosened}
use Rattle.hx_vault.specs.Vaults.{VaultState, pair_at, with_pair, raised, with_put, with_shut, rehomed, away_of, away_file, home_file, other_side, is_shut}
use Rattle.hx_pairs.specs.OnePair.{PairInvariant, IsBegun, side_stamp}
use Rattle.hx_pairs.specs.Stages.{prepare_ok, close_fault, IsReady, open_fault, open_ok, fade_ok, drop_fault, drop_ok, IsBlock, body_ok, body_fault, next_putting, is_closed_loosened}
use Rattle.hx_pairs.specs.Moves.{moves, new_marks, other_file}
use Rattle.hx_lives.specs.Course.{Start, opening_at}
use Rattle.hx_lives.specs.CrashSafe.{name_at}
use Rattle.hx_pairs.specs.AllPairs.{held_at, marks_at, IsHolder, PairsInvariant}

shut_put : (pair : Pair) (put : Option ℕ) (s : Side) → is_shut (with_put pair put) s ≡ is_shut pair s
shut_put pair put A = refl
shut_put pair put B = refl

shut_here : (pair : Pair) (put : Option ℕ) (s : Side) (t : Bool) → is_shut (with_put (with_shut pair (other_side s) t) put) s ≡ is_shut pair s
shut_here pair put A t = refl
shut_here pair put B t = refl

shut_there : (pair : Pair) (put : Option ℕ) (s : Side) (t : Bool) → is_shut (with_put (with_shut pair (other_side s) t) put) (other_side s) ≡ t
shut_there pair put A t = refl
shut_there pair put B t = refl

shut_self : (pair : Pair) (put : Option ℕ) (s : Side) (t : Bool) → is_shut (with_put (with_shut pair s t) put) s ≡ t
shut_self pair put A t = refl
shut_self pair put B t = refl

shut_other : (pair : Pair) (put : Option ℕ) (s : Side) (t : Bool) → is_shut (with_put (with_shut pair s t) put) (other_side s) ≡ is_shut pair (other_side s)
shut_other pair put A t = refl
shut_other pair put B t = refl

other_twice : (s : Side) → other_side (other_side s) ≡ s
other_twice A = refl
other_twice B = refl

moved_there : (pair : Pair) (s : Side) → is_shut (rehomed pair (other_side s)) (other_side s) ≡ false
moved_there pair A = refl
moved_there pair B = refl

moved_here : (pair : Pair) (s : Side) → is_shut (rehomed pair (other_side s)) (other_side (other_side s)) ≡ is_shut pair s
moved_here pair A = refl
moved_here pair B = refl

module _ (b : Start) (es : List Entry) (v : VaultState) (held : List (Option ℕ)) (old new : ℕ → FileState) (e : Entry) (c p n : ℕ) (kept : PairsInvariant b es v held old) (is : is_of c e.event ≡ true) (holds : held_at held c ≡ Some p)
    (others : (f : ℕ) → f ≢ away_file v p → new f ≡ old f) where
  -- what is known of the resource's pair
  abbrev pub holder : IsHolder b es v old c p
  holder = kept.taken c p holds

  abbrev pub away_now : SideState
  away_now = holder.owned.away

  -- one moment of a Prepare that is in hand, or the end of one that failed
  pub prepare_moment : e.outcome ≡ StageFault Prepare n → IsSide (loosened away_now) (new (away_file v p)) → PairsInvariant b (e ∷ es) (with_pair (raised v) p (with_put (pair_at v p) None)) held new
  prepare_moment was side =
      let pr : Pair = pair_at v p in
      let o = holder.owned in
      moves b es v held old new e c p (away_of pr) (with_put pr None) (v.stamp + 1) kept is holds holder.used (omega arith) others
      (record {
        here = o.here;
        away = loosened o.away;
        sides = record {
          is_here = subst (IsSide o.here) (sym (others (file_of p pr.home) (other_file p pr.home))) o.sides.is_here;
          is_away = side;
          known_here = o.sides.known_here ∙ sym (shut_put pr None pr.home);
          known_away = is_closed_loosened o.away ∙ o.sides.known_away ∙ sym (shut_put pr None (other_side pr.home));
          known_put = tt;
        };
        keeps = subst (λ (m : Marks). PairInvariant (name_at b c) m pr.home (v.stamp + 1) o.here (loosened o.away))
            (sym (new_marks b es e c (StageFault Prepare n) is was ∙ (marks_change (restored_at (opening_at b) c) (opening_at b).guarded (length es + 1) e.event e.content (own c es)).prepare_fault n))
            (close_fault (name_at b c) (marks_at b es c) pr.home v.stamp (v.stamp + 1) o.here o.away (omega arith) o.keeps);
      })

  -- the end of a Prepare that is done
  pub prepare_done : e.outcome ≡ StageOk Prepare n → IsSide (Shut []) (new (away_file v p)) → PairsInvariant b (e ∷ es) (with_pair (raised v) p (with_put (with_shut (pair_at v p) (away_of (pair_at v p)) true) (Some 0))) held new
  prepare_done was side =
      let pr : Pair = pair_at v p in
      let o = holder.owned in
      moves b es v held old new e c p (away_of pr) (with_put (with_shut pr (away_of pr) true) (Some 0)) (v.stamp + 1) kept is holds holder.used (omega arith) others
      (record {
        here = o.here;
        away = Shut [];
        sides = record {
          is_here = subst (IsSide o.here) (sym (others (file_of p pr.home) (other_file p pr.home))) o.sides.is_here;
          is_away = side;
          known_here = o.sides.known_here ∙ sym (shut_here pr (Some 0) pr.home true);
          known_away = sym (shut_there pr (Some 0) pr.home true);
          known_put = refl;
        };
        keeps = subst (λ (m : Marks). PairInvariant (name_at b c) m pr.home (v.stamp + 1) o.here (Shut []))
            (sym (new_marks b es e c (StageOk Prepare n) is was ∙ (marks_change (restored_at (opening_at b) c) (opening_at b).guarded (length es + 1) e.event e.content (own c es)).prepare_ok n))
            (prepare_ok (name_at b c) (marks_at b es c) pr.home v.stamp o.here o.away (prepared (restored_at (opening_at b) c) n (own c es)) refl o.keeps);
      })

  -- one moment of an Open that is in hand, or the end of one that failed
  pub open_moment : (bg : Begun) → (marks_at b es c).begun ≡ Some bg → next_stage bg ≡ Open → taken (restored_at (opening_at b) c) n (own c es) ≡ bg.snapshot → (r : IsReady (name_at b c) (marks_at b es c) v.stamp holder.owned.here away_now bg)
      → e.outcome ≡ StageFault Open n → IsSide (Still (Some r.frame) false) (new (away_file v p)) → PairsInvariant b (e ∷ es) (with_pair v p (with_shut (pair_at v p) (away_of (pair_at v p)) false)) held new
  open_moment bg begun next same r was side =
      let pr : Pair = pair_at v p in
      let o = holder.owned in
      moves b es v held old new e c p (away_of pr) (with_shut pr (away_of pr) false) v.stamp kept is holds holder.used (omega arith) others
      (record {
        here = o.here;
        away = Still (Some r.frame) false;
        sides = record {
          is_here = subst (IsSide o.here) (sym (others (file_of p pr.home) (other_file p pr.home))) o.sides.is_here;
          is_away = side;
          known_here = o.sides.known_here ∙ sym (shut_here pr None pr.home false);
          known_away = sym (shut_there pr None pr.home false);
          known_put = tt;
        };
        keeps = subst (λ (m : Marks). PairInvariant (name_at b c) m pr.home v.stamp o.here (Still (Some r.frame) false))
            (sym (new_marks b es e c (StageFault Open n) is was ∙ (marks_change (restored_at (opening_at b) c) (opening_at b).guarded (length es + 1) e.event e.content (own c es)).open_fault n
            ∙ ap (λ (s : Snapshot). record (marks_at b es c) { tried = Some s; opened = true; begun = None; faded = false; halted = true }) same))
            (open_fault (name_at b c) (marks_at b es c) pr.home v.stamp o.here o.away bg r o.keeps);
      })

  -- the end of an Open that is done
  pub open_done : (bg : Begun) → (marks_at b es c).begun ≡ Some bg → next_stage bg ≡ Open → taken (restored_at (opening_at b) c) n (own c es) ≡ bg.snapshot → (r : IsReady (name_at b c) (marks_at b es c) v.stamp holder.owned.here away_now bg)
      → e.outcome ≡ StageOk Open n → IsSide (Still (Some r.frame) true) (new (away_file v p)) → PairsInvariant b (e ∷ es) (with_pair v p (rehomed (pair_at v p) (away_of (pair_at v p)))) held new
  open_done bg begun next same r was side =
      let pr : Pair = pair_at v p in
      let o = holder.owned in
      moves b es v held old new e c p (away_of pr) (rehomed pr (away_of pr)) v.stamp kept is holds holder.used (omega arith) others
      (record {
        here = Still (Some r.frame) true;
        away = o.here;
        sides = record {
          is_here = side;
          is_away = subst (λ (s : Side). IsSide o.here (new (file_of p s))) (sym (other_twice pr.home)) (subst (IsSide o.here) (sym (others (file_of p pr.home) (other_file p pr.home))) o.sides.is_here);
          known_here = sym (moved_there pr pr.home);
          known_away = o.sides.known_here ∙ sym (moved_here pr pr.home);
          known_put = tt;
        };
        keeps = subst (λ (m : Marks). PairInvariant (name_at b c) m (other_side pr.home) v.stamp (Still (Some r.frame) true) o.here)
            (sym (new_marks b es e c (StageOk Open n) is was ∙ (marks_change (restored_at (opening_at b) c) (opening_at b).guarded (length es + 1) e.event e.content (own c es)).open_ok n
            ∙ ap (λ (s : Snapshot). record (marks_at b es c) { done = Some s; tried = None; undone = false; opened = true; begun = None; faded = false }) same))
            (open_ok (name_at b c) (marks_at b es c) pr.home v.stamp o.here o.away bg r o.keeps);
      })

  pub fade_moment : e.outcome ≡ StageFault Fade n → IsSide (loosened away_now) (new (away_file v p)) → PairsInvariant b (e ∷ es) (with_pair v p (with_put (pair_at v p) None)) held new
  fade_moment was side =
      let pr : Pair = pair_at v p in
      let o = holder.owned in
      moves b es v held old new e c p (away_of pr) (with_put pr None) v.stamp kept is holds holder.used (omega arith) others
      (record {
        here = o.here;
        away = loosened o.away;
        sides = record {
          is_here = subst (IsSide o.here) (sym (others (file_of p pr.home) (other_file p pr.home))) o.sides.is_here;
          is_away = side;
          known_here = o.sides.known_here ∙ sym (shut_put pr None pr.home);
          known_away = is_closed_loosened o.away ∙ o.sides.known_away ∙ sym (shut_put pr None (other_side pr.home));
          known_put = tt;
        };
        keeps = subst (λ (m : Marks). PairInvariant (name_at b c) m pr.home v.stamp o.here (loosened o.away))
            (sym (new_marks b es e c (StageFault Fade n) is was ∙ (marks_change (restored_at (opening_at b) c) (opening_at b).guarded (length es + 1) e.event e.content (own c es)).fade_fault n))
            (close_fault (name_at b c) (marks_at b es c) pr.home v.stamp v.stamp o.here o.away (omega arith) o.keeps);
      })

  pub fade_done : (marks_at b es c).begun ≡ None → e.outcome ≡ StageOk Fade n → IsSide (Shut []) (new (away_file v p)) → PairsInvariant b (e ∷ es) (with_pair v p (with_put (with_shut (pair_at v p) (away_of (pair_at v p)) true) None)) held new
  fade_done idle was side =
      let pr : Pair = pair_at v p in
      let o = holder.owned in
      moves b es v held old new e c p (away_of pr) (with_put (with_shut pr (away_of pr) true) None) v.stamp kept is holds holder.used (omega arith) others
      (record {
        here = o.here;
        away = Shut [];
        sides = record {
          is_here = subst (IsSide o.here) (sym (others (file_of p pr.home) (other_file p pr.home))) o.sides.is_here;
          is_away = side;
          known_here = o.sides.known_here ∙ sym (shut_here pr None pr.home true);
          known_away = sym (shut_there pr None pr.home true);
          known_put = tt;
        };
        keeps = subst (λ (m : Marks). PairInvariant (name_at b c) m pr.home v.stamp o.here (Shut []))
            (sym (new_marks b es e c (StageOk Fade n) is was ∙ (marks_change (restored_at (opening_at b) c) (opening_at b).guarded (length es + 1) e.event e.content (own c es)).fade_ok n))
            (fade_ok (name_at b c) (marks_at b es c) pr.home v.stamp o.here o.away _ idle o.keeps);
      })

-- the same of the stage that moves the home side
module _ (b : Start) (es : List Entry) (v : VaultState) (held : List (Option ℕ)) (old new : ℕ → FileState) (e : Entry) (c p n : ℕ) (kept : PairsInvariant b es v held old) (is : is_of c e.event ≡ true) (holds : held_at held c ≡ Some p)
    (others : (f : ℕ) → f ≢ home_file v p → new f ≡ old f) (untried : (marks_at b es c).tried ≡ None) (faded : (marks_at b es c).faded ≡ true) where
  abbrev pub owner_now : IsHolder b es v old c p
  owner_now = kept.taken c p holds

  abbrev pub here_now : SideState
  here_now = owner_now.owned.here

  pub drop_moment : e.outcome ≡ StageFault Drop n → IsSide (loosened here_now) (new (home_file v p)) → PairsInvariant b (e ∷ es) (with_pair v p (with_put (pair_at v p) None)) held new
  drop_moment was side =
      let pr : Pair = pair_at v p in
      let o = owner_now.owned in
      moves b es v held old new e c p pr.home (with_put pr None) v.stamp kept is holds owner_now.used (omega arith) others
      (record {
        here = loosened o.here;
        away = o.away;
        sides = record {
          is_here = side;
          is_away = subst (IsSide o.away) (sym (others (file_of p (other_side pr.home)) (λ same. other_file p pr.home (sym same)))) o.sides.is_away;
          known_here = is_closed_loosened o.here ∙ o.sides.known_here ∙ sym (shut_put pr None pr.home);
          known_away = o.sides.known_away ∙ sym (shut_put pr None (other_side pr.home));
          known_put = tt;
        };
        keeps = subst (λ (m : Marks). PairInvariant (name_at b c) m pr.home v.stamp (loosened o.here) o.away)
            (sym (new_marks b es e c (StageFault Drop n) is was ∙ (marks_change (restored_at (opening_at b) c) (opening_at b).guarded (length es + 1) e.event e.content (own c es)).drop_fault n))
            (drop_fault (name_at b c) (marks_at b es c) pr.home v.stamp o.here o.away untried faded o.keeps);
      })

  pub drop_done : (marks_at b es c).begun ≡ None → e.outcome ≡ StageOk Drop n → IsSide (Shut []) (new (home_file v p)) → PairsInvariant b (e ∷ es) (with_pair v p (with_put (with_shut (pair_at v p) (pair_at v p).home true) None)) held new
  drop_done idle was side =
      let pr : Pair = pair_at v p in
      let o = owner_now.owned in
      moves b es v held old new e c p pr.home (with_put (with_shut pr pr.home true) None) v.stamp kept is holds owner_now.used (omega arith) others
      (record {
        here = Shut [];
        away = o.away;
        sides = record {
          is_here = side;
          is_away = subst (IsSide o.away) (sym (others (file_of p (other_side pr.home)) (λ same. other_file p pr.home (sym same)))) o.sides.is_away;
          known_here = sym (shut_self pr None pr.home true);
          known_away = o.sides.known_away ∙ sym (shut_other pr None pr.home true);
          known_put = tt;
        };
        keeps = subst (λ (m : Marks). PairInvariant (name_at b c) m pr.home v.stamp (Shut []) o.away)
            (sym (new_marks b es e c (StageOk Drop n) is was ∙ (marks_change (restored_at (opening_at b) c) (opening_at b).guarded (length es + 1) e.event e.content (own c es)).drop_ok n))
            (drop_ok (name_at b c) (marks_at b es c) pr.home v.stamp o.here o.away _ untried faded idle o.keeps);
      })

-- the same of a Body
module _ (b : Start) (es : List Entry) (v : VaultState) (held : List (Option ℕ)) (old new : ℕ → FileState) (e : Entry) (c p n : ℕ) (kept : PairsInvariant b es v held old) (is : is_of c e.event ≡ true) (holds : held_at held c ≡ Some p)
    (others : (f : ℕ) → f ≢ away_file v p → new f ≡ old f) (put : List ℕ) (shut : (kept.taken c p holds).owned.away ≡ Shut put) where
  pub body_moment : e.outcome ≡ StageFault Body n → IsSide (Shut []) (new (away_file v p)) → PairsInvariant b (e ∷ es) (with_pair v p (with_put (pair_at v p) None)) held new
  body_moment was side =
      let pr : Pair = pair_at v p in
      let t = kept.taken c p holds in
      let o = t.owned in
      moves b es v held old new e c p (away_of pr) (with_put pr None) v.stamp kept is holds t.used (omega arith) others
      (record {
        here = o.here;
        away = Shut [];
        sides = record {
          is_here = subst (IsSide o.here) (sym (others (file_of p pr.home) (other_file p pr.home))) o.sides.is_here;
          is_away = side;
          known_here = o.sides.known_here ∙ sym (shut_put pr None pr.home);
          known_away = ap is_closed (sym shut) ∙ o.sides.known_away ∙ sym (shut_put pr None (other_side pr.home));
          known_put = tt;
        };
        keeps = subst (λ (m : Marks). PairInvariant (name_at b c) m pr.home v.stamp o.here (Shut []))
            (sym (new_marks b es e c (StageFault Body n) is was ∙ (marks_change (restored_at (opening_at b) c) (opening_at b).guarded (length es + 1) e.event e.content (own c es)).body_fault n))
            (body_fault (name_at b c) (marks_at b es c) pr.home v.stamp o.here put (subst (λ (s : SideState). PairInvariant (name_at b c) (marks_at b es c) pr.home v.stamp o.here s) shut o.keeps));
      })

  pub body_done : (bg : Begun) (block : List ℕ) (place : ℕ) → (marks_at b es c).begun ≡ Some bg → IsBlock (name_at b c) v.stamp bg block → length (put ++ block) ≡ place
      → e.outcome ≡ StageOk Body n → IsSide (Shut (put ++ block)) (new (away_file v p)) → PairsInvariant b (e ∷ es) (with_pair v p (with_put (pair_at v p) (Some place))) held new
  body_done bg block place begun_is is_block long was side =
      let pr : Pair = pair_at v p in
      let t = kept.taken c p holds in
      let o = t.owned in
      let keeps : PairInvariant (name_at b c) (marks_at b es c) pr.home v.stamp o.here (Shut put) = subst (λ (s : SideState). PairInvariant (name_at b c) (marks_at b es c) pr.home v.stamp o.here s) shut o.keeps in
      moves b es v held old new e c p (away_of pr) (with_put pr (Some place)) v.stamp kept is holds t.used (omega arith) others
      (record {
        here = o.here;
        away = Shut (put ++ block);
        sides = record {
          is_here = subst (IsSide o.here) (sym (others (file_of p pr.home) (other_file p pr.home))) o.sides.is_here;
          is_away = side;
          known_here = o.sides.known_here ∙ sym (shut_put pr (Some place) pr.home);
          known_away = ap is_closed (sym shut) ∙ o.sides.known_away ∙ sym (shut_put pr (Some place) (other_side pr.home));
          known_put = long;
        };
        keeps = subst (λ (m : Marks). PairInvariant (name_at b c) m pr.home v.stamp o.here (Shut (put ++ block)))
            (sym (new_marks b es e c (StageOk Body n) is was ∙ (marks_change (restored_at (opening_at b) c) (opening_at b).guarded (length es + 1) e.event e.content (own c es)).body_ok n
            ∙ ap (λ (x : Option Begun). record (marks_at b es c) { begun = still (wanted_with (restored_at (opening_at b) c) (opening_at b).guarded (deed (length es + 1) e.event (StageOk Body n) e.content) (own c es)) (one_block_more x); faded = false }) begun_is))
            (body_ok (name_at b c) (marks_at b es c) pr.home v.stamp o.here bg put block (wanted_with (restored_at (opening_at b) c) (opening_at b).guarded (deed (length es + 1) e.event (StageOk Body n) e.content) (own c es)) begun_is
            (next_putting (name_at b c) v.stamp (marks_at b es c).done (side_stamp o.here) bg put block (subst (λ (x : Option Begun). IsBegun (name_at b c) v.stamp (marks_at b es c).done (side_stamp o.here) x (Shut put)) begun_is keeps.if_begun) is_block)
            keeps);
      })

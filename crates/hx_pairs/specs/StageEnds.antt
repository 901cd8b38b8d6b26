-- Each vault stage keeps the whole invariant: by what the vault promises of the stage.
use Rattle.std.specs.Prelude.{◌≡◌, ℕ, ◌+◌, true, false, List, [], ◌∷◌, ◌++◌, length, is_some, Option, Some, None}
use Rattle.std.proofs.Common.{sym, ◌∙◌, ap, subst, length-append}
use Rattle.hx_disk.specs.File.{FileState}
use Rattle.hx_disk.specs.Disk.{Through}
use Rattle.hx_disk.specs.Runs.{through_now}
use Rattle.hx_events.specs.declared.event.Stage.TheVariants.{Prepare, Body, Open, Fade, Drop}
use Rattle.hx_events.specs.declared.life.Entry.{Entry}
use Rattle.hx_events.specs.declared.outcome.Outcome.{Outcome}
use Rattle.hx_events.specs.declared.outcome.Outcome.TheVariants.{StageOk, StageFault}
use Rattle.hx_rules.specs.Allowed.{failed, failed_outcome}
use Rattle.hx_rules.specs.Entries.{own, is_of}
use Rattle.hx_rules.specs.Backups.{Begun, taken}
use Rattle.hx_rules.specs.Due.{next_stage}
use Rattle.hx_slots.specs.Frames.{Frame}
use Rattle.hx_rules.specs.Legal.{restored_at}
use Rattle.hx_vault.specs.Sides.{SideState, Shut, Still, IsSide, IsFrame, is_closed, loosened}
use Rattle.hx_vault.specs.Vaults.{VaultState, pair_at, with_pair, raised, with_put, with_shut, rehomed, away_of, away_file, home_file, is_shut, place_of, put_length}
use Rattle.hx_lives.specs.Course.{Start, opening_at}
use Rattle.hx_lives.specs.CrashSafe.{name_at}
use Rattle.hx_pairs.specs.Stages.{ready, begun_shut, IsBlock}
use Rattle.hx_pairs.specs.OnePair.{IsBegun, side_stamp}
use Rattle.hx_pairs.specs.AllPairs.{held_at, marks_at, IsPlace, PairsInvariant}
use Rattle.hx_pairs.specs.Safe.{kept_safe}
use Rattle.hx_pairs.specs.Owed.{PairsOwe, moved}
use Rattle.hx_pairs.specs.Events.{prepare_moment, prepare_done, open_moment, open_done, fade_moment, fade_done, drop_moment, drop_done, body_moment, body_done}

place_is : (at : Option ℕ) (put : List ℕ) → is_some at ≡ true → IsPlace at (Shut put) → length put ≡ put_length at
place_is None put there is = absurd cc
place_is (Some n) put there is = is

module _ {D : Type 0} (time : D → ℕ) (past : D → ℕ → ℕ → FileState) (now : D → ℕ → FileState) (present : (d : D) (f : ℕ) → past d (time d) f ≡ now d f)
    (b : Start) (es : List Entry) (v w : VaultState) (held : List (Option ℕ)) (old new : D) (e : Entry) (c p n : ℕ)
    (kept : PairsInvariant b es v held (now old)) (holds : held_at held c ≡ Some p) (is : is_of c e.event ≡ true) where
  pub prepare_good : e.outcome ≡ StageOk Prepare n → w ≡ with_pair (raised v) p (with_put (with_shut (pair_at v p) (away_of (pair_at v p)) true) (Some 0))
      → ((s : SideState) → is_closed s ≡ is_shut (pair_at v p) (away_of (pair_at v p)) → IsSide s (now old (away_file v p)) → IsSide (Shut []) (now new (away_file v p)))
      → ((s : SideState) → is_closed s ≡ is_shut (pair_at v p) (away_of (pair_at v p)) → IsSide s (now old (away_file v p)) → Through time past (away_file v p) (IsSide (loosened s)) old new)
      → PairsOwe time past now b es e w held old new
  prepare_good was vault shut each =
      let o = (kept.taken c p holds).owned in
      let after : Outcome = failed_outcome e.outcome in
      moved time past now present b es w held old new e (away_file v p) (IsSide (loosened o.away)) (each o.away o.sides.known_away o.sides.is_away)
      (λ files side others. kept_safe b (failed e ∷ es) (with_pair (raised v) p (with_put (pair_at v p) None)) held files
      (prepare_moment b es v held (now old) files (failed e) c p n kept is holds others (ap failed_outcome was) side))
      (λ others. subst (λ (k : VaultState). PairsInvariant b (e ∷ es) k held (now new)) (sym vault)
      (prepare_done b es v held (now old) (now new) e c p n kept is holds others was (shut o.away o.sides.known_away o.sides.is_away)))

  pub prepare_failed_good : e.outcome ≡ StageFault Prepare n → w ≡ with_pair (raised v) p (with_put (pair_at v p) None)
      → ((s : SideState) → is_closed s ≡ is_shut (pair_at v p) (away_of (pair_at v p)) → IsSide s (now old (away_file v p)) → Through time past (away_file v p) (IsSide (loosened s)) old new)
      → PairsOwe time past now b es e w held old new
  prepare_failed_good was vault each =
      let o = (kept.taken c p holds).owned in
      let run = each o.away o.sides.known_away o.sides.is_away in
      moved time past now present b es w held old new e (away_file v p) (IsSide (loosened o.away)) run
      (λ files side others. kept_safe b (failed e ∷ es) (with_pair (raised v) p (with_put (pair_at v p) None)) held files
      (prepare_moment b es v held (now old) files (failed e) c p n kept is holds others (ap failed_outcome was) side))
      (λ others. subst (λ (k : VaultState). PairsInvariant b (e ∷ es) k held (now new)) (sym vault)
      (prepare_moment b es v held (now old) (now new) e c p n kept is holds others was
      (through_now time past now present (away_file v p) (IsSide (loosened o.away)) old new run)))

  -- what a due Open opens
  pub open_good : (bg : Begun) → (marks_at b es c).begun ≡ Some bg → next_stage bg ≡ Open → bg.size ≡ length bg.snapshot.content → taken (restored_at (opening_at b) c) n (own c es) ≡ bg.snapshot
      → e.outcome ≡ StageOk Open n → w ≡ with_pair v p (rehomed (pair_at v p) (away_of (pair_at v p)))
      → ((put : List ℕ) (frame : Frame) → IsSide (Shut put) (now old (away_file v p)) → IsFrame put frame → IsSide (Still (Some frame) true) (now new (away_file v p)))
      → ((put : List ℕ) (frame : Frame) → IsSide (Shut put) (now old (away_file v p)) → IsFrame put frame → Through time past (away_file v p) (IsSide (Still (Some frame) false)) old new)
      → PairsOwe time past now b es e w held old new
  open_good bg begun next sized same was vault opens each =
      let o = (kept.taken c p holds).owned in
      let r = ready (name_at b c) (marks_at b es c) (pair_at v p).home v.stamp o.here o.away bg begun next sized o.keeps in
      let behind : IsSide (Shut r.put) (now old (away_file v p)) = subst (λ (s : SideState). IsSide s (now old (away_file v p))) r.is o.sides.is_away in
      moved time past now present b es w held old new e (away_file v p) (IsSide (Still (Some r.frame) false)) (each r.put r.frame behind r.whole)
      (λ files side others. kept_safe b (failed e ∷ es) (with_pair v p (with_shut (pair_at v p) (away_of (pair_at v p)) false)) held files
      (open_moment b es v held (now old) files (failed e) c p n kept is holds others bg begun next same r (ap failed_outcome was) side))
      (λ others. subst (λ (k : VaultState). PairsInvariant b (e ∷ es) k held (now new)) (sym vault)
      (open_done b es v held (now old) (now new) e c p n kept is holds others bg begun next same r was (opens r.put r.frame behind r.whole)))

  pub open_failed_good : (bg : Begun) → (marks_at b es c).begun ≡ Some bg → next_stage bg ≡ Open → bg.size ≡ length bg.snapshot.content → taken (restored_at (opening_at b) c) n (own c es) ≡ bg.snapshot
      → e.outcome ≡ StageFault Open n → w ≡ with_pair v p (with_shut (pair_at v p) (away_of (pair_at v p)) false)
      → ((put : List ℕ) (frame : Frame) → IsSide (Shut put) (now old (away_file v p)) → IsFrame put frame → Through time past (away_file v p) (IsSide (Still (Some frame) false)) old new)
      → PairsOwe time past now b es e w held old new
  open_failed_good bg begun next sized same was vault each =
      let o = (kept.taken c p holds).owned in
      let r = ready (name_at b c) (marks_at b es c) (pair_at v p).home v.stamp o.here o.away bg begun next sized o.keeps in
      let behind : IsSide (Shut r.put) (now old (away_file v p)) = subst (λ (s : SideState). IsSide s (now old (away_file v p))) r.is o.sides.is_away in
      let run = each r.put r.frame behind r.whole in
      moved time past now present b es w held old new e (away_file v p) (IsSide (Still (Some r.frame) false)) run
      (λ files side others. kept_safe b (failed e ∷ es) (with_pair v p (with_shut (pair_at v p) (away_of (pair_at v p)) false)) held files
      (open_moment b es v held (now old) files (failed e) c p n kept is holds others bg begun next same r (ap failed_outcome was) side))
      (λ others. subst (λ (k : VaultState). PairsInvariant b (e ∷ es) k held (now new)) (sym vault)
      (open_moment b es v held (now old) (now new) e c p n kept is holds others bg begun next same r was
      (through_now time past now present (away_file v p) (IsSide (Still (Some r.frame) false)) old new run)))

  pub fade_good : (marks_at b es c).begun ≡ None → e.outcome ≡ StageOk Fade n → w ≡ with_pair v p (with_put (with_shut (pair_at v p) (away_of (pair_at v p)) true) None)
      → ((s : SideState) → is_closed s ≡ is_shut (pair_at v p) (away_of (pair_at v p)) → IsSide s (now old (away_file v p)) → IsSide (Shut []) (now new (away_file v p)))
      → ((s : SideState) → is_closed s ≡ is_shut (pair_at v p) (away_of (pair_at v p)) → IsSide s (now old (away_file v p)) → Through time past (away_file v p) (IsSide (loosened s)) old new)
      → PairsOwe time past now b es e w held old new
  fade_good idle was vault shut each =
      let o = (kept.taken c p holds).owned in
      moved time past now present b es w held old new e (away_file v p) (IsSide (loosened o.away)) (each o.away o.sides.known_away o.sides.is_away)
      (λ files side others. kept_safe b (failed e ∷ es) (with_pair v p (with_put (pair_at v p) None)) held files
      (fade_moment b es v held (now old) files (failed e) c p n kept is holds others (ap failed_outcome was) side))
      (λ others. subst (λ (k : VaultState). PairsInvariant b (e ∷ es) k held (now new)) (sym vault)
      (fade_done b es v held (now old) (now new) e c p n kept is holds others idle was (shut o.away o.sides.known_away o.sides.is_away)))

  pub fade_failed_good : e.outcome ≡ StageFault Fade n → w ≡ with_pair v p (with_put (pair_at v p) None)
      → ((s : SideState) → is_closed s ≡ is_shut (pair_at v p) (away_of (pair_at v p)) → IsSide s (now old (away_file v p)) → Through time past (away_file v p) (IsSide (loosened s)) old new)
      → PairsOwe time past now b es e w held old new
  fade_failed_good was vault each =
      let o = (kept.taken c p holds).owned in
      let run = each o.away o.sides.known_away o.sides.is_away in
      moved time past now present b es w held old new e (away_file v p) (IsSide (loosened o.away)) run
      (λ files side others. kept_safe b (failed e ∷ es) (with_pair v p (with_put (pair_at v p) None)) held files
      (fade_moment b es v held (now old) files (failed e) c p n kept is holds others (ap failed_outcome was) side))
      (λ others. subst (λ (k : VaultState). PairsInvariant b (e ∷ es) k held (now new)) (sym vault)
      (fade_moment b es v held (now old) (now new) e c p n kept is holds others was
      (through_now time past now present (away_file v p) (IsSide (loosened o.away)) old new run)))

  pub drop_good : (marks_at b es c).tried ≡ None → (marks_at b es c).faded ≡ true → (marks_at b es c).begun ≡ None → e.outcome ≡ StageOk Drop n
      → w ≡ with_pair v p (with_put (with_shut (pair_at v p) (pair_at v p).home true) None)
      → ((s : SideState) → is_closed s ≡ is_shut (pair_at v p) (pair_at v p).home → IsSide s (now old (home_file v p)) → IsSide (Shut []) (now new (home_file v p)))
      → ((s : SideState) → is_closed s ≡ is_shut (pair_at v p) (pair_at v p).home → IsSide s (now old (home_file v p)) → Through time past (home_file v p) (IsSide (loosened s)) old new)
      → PairsOwe time past now b es e w held old new
  drop_good untried faded idle was vault shut each =
      let o = (kept.taken c p holds).owned in
      moved time past now present b es w held old new e (home_file v p) (IsSide (loosened o.here)) (each o.here o.sides.known_here o.sides.is_here)
      (λ files side others. kept_safe b (failed e ∷ es) (with_pair v p (with_put (pair_at v p) None)) held files
      (drop_moment b es v held (now old) files (failed e) c p n kept is holds others untried faded (ap failed_outcome was) side))
      (λ others. subst (λ (k : VaultState). PairsInvariant b (e ∷ es) k held (now new)) (sym vault)
      (drop_done b es v held (now old) (now new) e c p n kept is holds others untried faded idle was (shut o.here o.sides.known_here o.sides.is_here)))

  pub drop_failed_good : (marks_at b es c).tried ≡ None → (marks_at b es c).faded ≡ true → e.outcome ≡ StageFault Drop n → w ≡ with_pair v p (with_put (pair_at v p) None)
      → ((s : SideState) → is_closed s ≡ is_shut (pair_at v p) (pair_at v p).home → IsSide s (now old (home_file v p)) → Through time past (home_file v p) (IsSide (loosened s)) old new)
      → PairsOwe time past now b es e w held old new
  drop_failed_good untried faded was vault each =
      let o = (kept.taken c p holds).owned in
      let run = each o.here o.sides.known_here o.sides.is_here in
      moved time past now present b es w held old new e (home_file v p) (IsSide (loosened o.here)) run
      (λ files side others. kept_safe b (failed e ∷ es) (with_pair v p (with_put (pair_at v p) None)) held files
      (drop_moment b es v held (now old) files (failed e) c p n kept is holds others untried faded (ap failed_outcome was) side))
      (λ others. subst (λ (k : VaultState). PairsInvariant b (e ∷ es) k held (now new)) (sym vault)
      (drop_moment b es v held (now old) (now new) e c p n kept is holds others untried faded was
      (through_now time past now present (home_file v p) (IsSide (loosened o.here)) old new run)))

  -- what was put so far, by what is begun
  pub put_so_far : (bg : Begun) → (marks_at b es c).begun ≡ Some bg → (put : List ℕ) × ((kept.taken c p holds).owned.away ≡ Shut put)
  put_so_far bg begun =
      let o = (kept.taken c p holds).owned in
      begun_shut (name_at b c) v.stamp (marks_at b es c).done (side_stamp o.here) bg o.away (subst (λ (x : Option Begun). IsBegun (name_at b c) v.stamp (marks_at b es c).done (side_stamp o.here) x o.away) begun o.keeps.if_begun)

  pub body_good : (bg : Begun) (block : List ℕ) → (marks_at b es c).begun ≡ Some bg → IsBlock (name_at b c) v.stamp bg block → is_some (pair_at v p).put ≡ true
      → e.outcome ≡ StageOk Body n → w ≡ with_pair v p (with_put (pair_at v p) (Some (place_of (pair_at v p) + length block)))
      → ((put : List ℕ) → length put ≡ place_of (pair_at v p) → IsSide (Shut put) (now old (away_file v p)) → IsSide (Shut (put ++ block)) (now new (away_file v p)))
      → Through time past (away_file v p) (IsSide (Shut [])) old new
      → PairsOwe time past now b es e w held old new
  body_good bg block begun is_block prepared was vault puts each =
      let o = (kept.taken c p holds).owned in
      let f = put_so_far bg begun in
      let long : length f.0 ≡ place_of (pair_at v p) = place_is (pair_at v p).put f.0 prepared (subst (λ (s : SideState). IsPlace (pair_at v p).put s) f.1 o.sides.known_put) in
      let behind : IsSide (Shut f.0) (now old (away_file v p)) = subst (λ (s : SideState). IsSide s (now old (away_file v p))) f.1 o.sides.is_away in
      moved time past now present b es w held old new e (away_file v p) (IsSide (Shut [])) each
      (λ files side others. kept_safe b (failed e ∷ es) (with_pair v p (with_put (pair_at v p) None)) held files
      (body_moment b es v held (now old) files (failed e) c p n kept is holds others f.0 f.1 (ap failed_outcome was) side))
      (λ others. subst (λ (k : VaultState). PairsInvariant b (e ∷ es) k held (now new)) (sym vault)
      (body_done b es v held (now old) (now new) e c p n kept is holds others f.0 f.1 bg block (place_of (pair_at v p) + length block) begun is_block (length-append f.0 block ∙ ap (λ k. k + length block) long) was (puts f.0 long behind)))

  pub body_failed_good : (bg : Begun) → (marks_at b es c).begun ≡ Some bg → e.outcome ≡ StageFault Body n → w ≡ with_pair v p (with_put (pair_at v p) None)
      → Through time past (away_file v p) (IsSide (Shut [])) old new
      → PairsOwe time past now b es e w held old new
  body_failed_good bg begun was vault each =
      let f = put_so_far bg begun in
      moved time past now present b es w held old new e (away_file v p) (IsSide (Shut [])) each
      (λ files side others. kept_safe b (failed e ∷ es) (with_pair v p (with_put (pair_at v p) None)) held files
      (body_moment b es v held (now old) files (failed e) c p n kept is holds others f.0 f.1 (ap failed_outcome was) side))
      (λ others. subst (λ (k : VaultState). PairsInvariant b (e ∷ es) k held (now new)) (sym vault)
      (body_moment b es v held (now old) (now new) e c p n kept is holds others f.0 f.1 was
      (through_now time past now present (away_file v p) (IsSide (Shut [])) old new each)))

-- what a Body finds on the disk
pub body_ready : {D : Type 0} (time : D → ℕ) (past : D → ℕ → ℕ → FileState) (now : D → ℕ → FileState) (b : Start) (es : List Entry) (v : VaultState) (held : List (Option ℕ)) (disk : D) (c p : ℕ) (bg : Begun)
    → PairsInvariant b es v held (now disk) → held_at held c ≡ Some p → (marks_at b es c).begun ≡ Some bg → is_some (pair_at v p).put ≡ true
    → (put : List ℕ) × (length put ≡ place_of (pair_at v p)) × IsSide (Shut put) (now disk (away_file v p))
body_ready time past now b es v held disk c p bg kept holds begun prepared =
    let o = (kept.taken c p holds).owned in
    let f = begun_shut (name_at b c) v.stamp (marks_at b es c).done (side_stamp o.here) bg o.away (subst (λ (x : Option Begun). IsBegun (name_at b c) v.stamp (marks_at b es c).done (side_stamp o.here) x o.away) begun o.keeps.if_begun) in (
      f.0,
      place_is (pair_at v p).put f.0 prepared (subst (λ (s : SideState). IsPlace (pair_at v p).put s) f.1 o.sides.known_put),
      subst (λ (s : SideState). IsSide s (now disk (away_file v p))) f.1 o.sides.is_away,
    )

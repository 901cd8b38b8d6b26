-- The laws of a copy and its saves are proved here.
use Rattle.std.specs.Prelude.{◌≡◌, ℕ, ◌+◌, ◌==◌, ◌≤◌, not, Bool, true, false, ◌&&◌, List, [], ◌∷◌, if◌then◌else◌, Option, Some, None, IfSome, refl}
use Rattle.std.proofs.Common.{arith, ap, ◌∙◌}
use Rattle.std.proofs.lemmas.Bool.Decides.{nat_tests}
use Rattle.hx_events.specs.declared.backup.Backup.{Backup}
use Rattle.hx_events.specs.declared.event.Event.{Event}
use Rattle.hx_events.specs.declared.outcome.Outcome.{Outcome}
use Rattle.hx_events.specs.declared.outcome.Outcome.TheVariants.{Opened, Created, Edited, Undone, Redone, Reverted, Closed, Saved, Joined, Clean, Queued, Started, Checked, CheckFault, Modified, WriteFault, Unguarded}
use Rattle.hx_rules.specs.Entries.{Deed, deed}
use Rattle.hx_rules.specs.Versions.{Trail, trail_of, at_place, moved_back, moved_on, trail_after, adds_version, last_version, trail, alternative}
use Rattle.hx_rules.specs.Copies.{registered, mark, mark_after, dirty, is_number}
use Rattle.hx_rules.specs.Backups.{is_change}
use Rattle.hx_rules.specs.Saves.{save_steps}
use Rattle.hx_rules_laws.specs.Copies.{copy_state, CopiesChange, is_save_outcome, SavesChange, AreUpTo, TrailIsWithinVersions}

same_number : (n : ℕ) → (n == n) ≡ true
same_number n = grind (arith, nat_tests)

more_up_to : (last : ℕ) (ns : List ℕ) → AreUpTo last ns → AreUpTo (last + 1) ns
more_up_to last [] all = tt
more_up_to last (n ∷ ns) all = (omega (arith, all.0), more_up_to last ns all.1)

more_marked : (last : ℕ) (m : Option ℕ) → IfSome m (λ n. n ≤ last) → IfSome m (λ n. n ≤ last + 1)
more_marked last None is = tt
more_marked last (Some n) is = omega (arith, is)

-- the trail and the mark of what an outcome leaves are within the versions
pub record AreWithin (last : ℕ) (t : Trail) (m : Option ℕ) : Type 0 where
  pub back : AreUpTo last t.back
  pub ahead : AreUpTo last t.ahead
  pub mark : IfSome m (λ n. n ≤ last)

back_within : (last : ℕ) (back ahead : List ℕ) (m : Option ℕ) → AreWithin last (trail_of back ahead) m → AreWithin last (moved_back (trail_of back ahead)) m
back_within last [] ahead m is = is
back_within last (x ∷ []) ahead m is = is
back_within last (x ∷ (y ∷ ys)) ahead m is = record { back = is.back.1; ahead = (is.back.0, is.ahead); mark = is.mark }

on_within : (last : ℕ) (back ahead : List ℕ) (m : Option ℕ) → AreWithin last (trail_of back ahead) m → AreWithin last (moved_on (trail_of back ahead)) m
on_within last back [] m is = is
on_within last back (x ∷ xs) m is = record { back = (is.ahead.0, is.back); ahead = is.ahead.1; mark = is.mark }

more_within : (last : ℕ) (t : Trail) (m : Option ℕ) → AreWithin last t m → AreWithin (last + 1) t m
more_within last t m is = record { back = more_up_to last t.back is.back; ahead = more_up_to last t.ahead is.ahead; mark = more_marked last m is.mark }

begins_within : (last : ℕ) → AreWithin (last + 1) (trail_of ((last + 1) ∷ []) []) (Some (last + 1))
begins_within last = record { back = (omega arith, tt); ahead = tt; mark = omega arith }

place_within : (last : ℕ) (back ahead : List ℕ) → AreUpTo last back → at_place (trail_of back ahead) ≤ last
place_within last [] ahead all = omega arith
place_within last (x ∷ xs) ahead all = all.0

saved_within : (b : Bool) (last : ℕ) (t : Trail) (m : Option ℕ) → AreWithin last t m → AreWithin last t (if b then Some (at_place t) else m)
saved_within true last t m is = record { back = is.back; ahead = is.ahead; mark = place_within last t.back t.ahead is.back }
saved_within false last t m is = is

within_step : (outcome : Outcome) (last : ℕ) (t : Trail) (m : Option ℕ) → AreWithin last t m
    → AreWithin (if adds_version outcome then last + 1 else last) (trail_after outcome (last + 1) t) (mark_after outcome last (at_place (trail_after outcome (last + 1) t)) m)
within_step (Opened s) last t m is = begins_within last
within_step (Created n) last t m is = begins_within last
within_step (Reverted s) last t m is = begins_within last
within_step (Edited n) last t m is = record { back = (omega arith, more_up_to last t.back is.back); ahead = tt; mark = more_marked last m is.mark }
within_step (Undone n) last t m is = back_within (last + 1) t.back t.ahead m (more_within last t m is)
within_step (Redone n) last t m is = on_within (last + 1) t.back t.ahead m (more_within last t m is)
within_step (Saved n x) last t m is = saved_within (n == last) last t m is
within_step _ last t m is = is

within_first : (restored : Option Backup) → AreWithin (last_version restored []) (trail restored []) None
within_first None = record { back = tt; ahead = tt; mark = tt }
within_first (Some b) = record { back = (omega arith, tt); ahead = tt; mark = tt }

within : (restored : Option Backup) (ds : List Deed) → AreWithin (last_version restored ds) (trail restored ds) (mark restored ds)
within restored [] = within_first restored
within restored (d ∷ ds) = within_step d.outcome (last_version restored ds) (trail restored ds) (mark restored ds) (within restored ds)

pub trail_is_within_versions : TrailIsWithinVersions
trail_is_within_versions restored ds = let all = within restored ds in record { back = all.back; ahead = all.ahead; mark = all.mark }

other_state : (restored : Option Backup) (place : ℕ) (event : Event) (content : List ℕ) (ds : List Deed) (outcome : Outcome) → is_change outcome ≡ false → copy_state restored (deed place event outcome content ∷ ds) ≡ copy_state restored ds
other_state restored place event content ds (Opened s) h = absurd cc
other_state restored place event content ds (Created n) h = absurd cc
other_state restored place event content ds (Edited n) h = absurd cc
other_state restored place event content ds (Undone n) h = absurd cc
other_state restored place event content ds (Redone n) h = absurd cc
other_state restored place event content ds (Reverted s) h = absurd cc
other_state restored place event content ds Closed h = absurd cc
other_state restored place event content ds (Saved n x) h = absurd cc
other_state restored place event content ds _ h = refl

other_dirty : (restored : Option Backup) (place : ℕ) (event : Event) (content : List ℕ) (ds : List Deed) (outcome : Outcome) → is_change outcome ≡ false → dirty restored (deed place event outcome content ∷ ds) ≡ dirty restored ds
other_dirty restored place event content ds outcome h = ap (λ s. s.registered && not (is_number (at_place s.trail) s.mark)) (other_state restored place event content ds outcome h)

not_marked : (r : Bool) (n : ℕ) → (r && not (n == n)) ≡ false
not_marked r n = ap (λ b. r && not b) (same_number n) ∙ and_not_true r
  where
    and_not_true : (r : Bool) → (r && not true) ≡ false
    and_not_true true = refl
    and_not_true false = refl

marked : (b : Bool) (r : Bool) (n : ℕ) (m : Option ℕ) → b ≡ true → (r && not (is_number n (if b then Some n else m))) ≡ false
marked true r n m h = not_marked r n
marked false r n m h = absurd cc

new_is_unmarked : (last : ℕ) (m : Option ℕ) → IfSome m (λ n. n ≤ last) → is_number (last + 1) m ≡ false
new_is_unmarked last None is = refl
new_is_unmarked last (Some n) is = grind (arith, nat_tests)

edited_dirty : (restored : Option Backup) (ds : List Deed) → registered restored ds ≡ true → (registered restored ds && not (is_number (last_version restored ds + 1) (mark restored ds))) ≡ true
edited_dirty restored ds there = ap (λ r. r && not (is_number (last_version restored ds + 1) (mark restored ds))) there ∙ ap not (new_is_unmarked (last_version restored ds) (mark restored ds) (within restored ds).mark)

pub copies_change : CopiesChange
copies_change restored place event content ds = record {
  opened = λ s. refl;
  created = λ n. refl;
  edited = λ n. refl;
  undone = λ n. refl;
  redone = λ n. refl;
  reverted = λ s. refl;
  closed = refl;
  saved = λ n x. refl;
  other = other_state restored place event content ds;
  opened_clean = λ s. not_marked true (last_version restored ds + 1);
  created_clean = λ n. not_marked true (last_version restored ds + 1);
  reverted_clean = λ s. not_marked (registered restored ds) (last_version restored ds + 1);
  closed_clean = refl;
  edited_dirty = λ n there. edited_dirty restored ds there;
  saved_clean = λ x. marked (last_version restored ds == last_version restored ds) (registered restored ds) (alternative restored ds) (mark restored ds) (same_number (last_version restored ds));
  other_dirty = other_dirty restored place event content ds;
}

other_steps : (restored : Option Backup) (place : ℕ) (event : Event) (content : List ℕ) (ds : List Deed) (outcome : Outcome) → is_save_outcome outcome ≡ false → save_steps restored (deed place event outcome content ∷ ds) ≡ save_steps restored ds
other_steps restored place event content ds Joined h = absurd cc
other_steps restored place event content ds Clean h = absurd cc
other_steps restored place event content ds Queued h = absurd cc
other_steps restored place event content ds (Started n) h = absurd cc
other_steps restored place event content ds (Checked x) h = absurd cc
other_steps restored place event content ds CheckFault h = absurd cc
other_steps restored place event content ds (Modified s) h = absurd cc
other_steps restored place event content ds (WriteFault n) h = absurd cc
other_steps restored place event content ds (Unguarded n) h = absurd cc
other_steps restored place event content ds (Saved n x) h = absurd cc
other_steps restored place event content ds _ h = refl

pub saves_change : SavesChange
saves_change restored place c force over event content ds = record {
  joined = refl;
  clean = refl;
  queued = refl;
  started = λ n. refl;
  checked = λ x. refl;
  check_fault = refl;
  modified = λ s. refl;
  write_fault = λ n. refl;
  unguarded = λ n. refl;
  saved = λ n x. refl;
  other = other_steps restored place event content ds;
}

-- The stat that a copy keeps, in the words of the rule.
use Rattle.std.specs.Prelude.{◌≡◌, ◌<◌, ◌≤◌, nat_le, ℕ, Bool, true, false, List, [], ◌∷◌, ◌++◌, if◌then◌else◌, Option, Some, None, refl}
use Rattle.std.proofs.Common.{arith, ap, sym, subst}
use Rattle.std.proofs.lemmas.Bool.Decides.{nat_tests}
use Rattle.hx_etag.specs.declared.stat.Stat.{Stat}
use Rattle.hx_events.specs.declared.backup.Backup.{Backup}
use Rattle.hx_events.specs.declared.outcome.Outcome.{Outcome}
use Rattle.hx_events.specs.declared.outcome.Outcome.TheVariants.{Opened, Created, Reverted, Saved}
use Rattle.hx_rules.specs.Entries.{Deed}
use Rattle.hx_etag.specs.Conflicts.{newer_of}
use Rattle.hx_rules.specs.Copies.{kept, kept_after}

abbrev pub stats_after : Outcome → List Stat → List Stat
stats_after (Opened s) was = s ∷ []
stats_after (Created n) was = []
stats_after (Reverted s) was = s ∷ was
stats_after (Saved n None) was = was
stats_after (Saved n (Some s)) was = s ∷ was
stats_after _ was = was

-- The stats of the copy's open, reverts and saves since it was last opened or created, newest first. Where it was neither,
-- the restored backup's stat stands before them.
abbrev pub stats_found : Option Backup → List Deed → List Stat
stats_found restored [] = elim restored [ None ↦ [] | Some b ↦ elim b.base [ None ↦ [] | Some s ↦ s ∷ [] ] ]
stats_found restored (d ∷ ds) = stats_after d.outcome (stats_found restored ds)

-- the times of these stats are all before this one, or all no later
abbrev pub AreBefore : ℕ → List Stat → Type 0
AreBefore time [] = Unit {0}
AreBefore time (t ∷ ts) = (t.mtime < time) × AreBefore time ts

abbrev pub AreNoLater : ℕ → List Stat → Type 0
AreNoLater time [] = Unit {0}
AreNoLater time (t ∷ ts) = (t.mtime ≤ time) × AreNoLater time ts

-- Of these stats, newest first, it is the last among those of the greatest time: all that came later have an earlier time,
-- and those that came before it no later one.
pub record IsLastOfGreatest (stats : List Stat) (s : Stat) : Type 0 where
  pub later : List Stat
  pub before : List Stat
  pub whole : stats ≡ later ++ s ∷ before
  pub later_are_older : AreBefore s.mtime later
  pub before_are_no_newer : AreNoLater s.mtime before

abbrev pub IsKeptOf : List Stat → Option Stat → Type 0
IsKeptOf stats None = stats ≡ []
IsKeptOf stats (Some s) = IsLastOfGreatest stats s

-- The stat that the copy keeps is the last among those of the greatest time; where there is none, it keeps none.
abbrev pub KeepsLastOfGreatest : Type 0
KeepsLastOfGreatest = (restored : Option Backup) (ds : List Deed) → IsKeptOf (stats_found restored ds) (kept restored ds)

only : (s : Stat) → IsLastOfGreatest (s ∷ []) s
only s = record { later = []; before = []; whole = refl; later_are_older = tt; before_are_no_newer = tt }

no_newer : (s t : Stat) (xs : List Stat) → s.mtime ≤ t.mtime → AreBefore s.mtime xs → AreNoLater t.mtime xs
no_newer s t [] le all = tt
no_newer s t (x ∷ xs) le all = (omega (arith, all.0), no_newer s t xs le all.1)

no_newer_than : (s t : Stat) (xs : List Stat) → s.mtime ≤ t.mtime → AreNoLater s.mtime xs → AreNoLater t.mtime xs
no_newer_than s t [] le all = tt
no_newer_than s t (x ∷ xs) le all = (omega (arith, all.0), no_newer_than s t xs le all.1)

all_append : (t : Stat) (xs ys : List Stat) → AreNoLater t.mtime xs → AreNoLater t.mtime ys → AreNoLater t.mtime (xs ++ ys)
all_append t [] ys all rest = rest
all_append t (x ∷ xs) ys all rest = (all.0, all_append t xs ys all.1 rest)

newest_wins : (stats : List Stat) (s t : Stat) → s.mtime ≤ t.mtime → IsLastOfGreatest stats s → IsLastOfGreatest (t ∷ stats) t
newest_wins stats s t le is = record {
  later = [];
  before = stats;
  whole = refl;
  later_are_older = tt;
  before_are_no_newer = subst (AreNoLater t.mtime) (sym is.whole) (all_append t is.later (s ∷ is.before) (no_newer s t is.later le is.later_are_older) (le, no_newer_than s t is.before le is.before_are_no_newer));
}

older_loses : (stats : List Stat) (s t : Stat) → t.mtime < s.mtime → IsLastOfGreatest stats s → IsLastOfGreatest (t ∷ stats) s
older_loses stats s t lt is = record {
  later = t ∷ is.later;
  before = is.before;
  whole = ap (λ xs. t ∷ xs) is.whole;
  later_are_older = (lt, is.later_are_older);
  before_are_no_newer = is.before_are_no_newer;
}

newer_kept : (stats : List Stat) (was : Option Stat) (t : Stat) → IsKeptOf stats was → IsKeptOf (t ∷ stats) (Some (newer_of was t))
newer_kept stats None t is = subst (λ (xs : List Stat). IsLastOfGreatest (t ∷ xs) t) (sym is) (only t)
newer_kept stats (Some s) t is = step (nat_le s.mtime t.mtime) (λ h. grind (arith, nat_tests)) (λ h. grind (arith, nat_tests))
  where
    step : (b : Bool) → (b ≡ true → s.mtime ≤ t.mtime) → (b ≡ false → t.mtime < s.mtime) → IsLastOfGreatest (t ∷ stats) (if b then t else s)
    step true le lt = newest_wins stats s t (le refl) is
    step false le lt = older_loses stats s t (lt refl) is

kept_step : (o : Outcome) (stats : List Stat) (was : Option Stat) → IsKeptOf stats was → IsKeptOf (stats_after o stats) (kept_after o was)
kept_step (Opened s) stats was is = only s
kept_step (Created n) stats was is = refl
kept_step (Reverted s) stats was is = newer_kept stats was s is
kept_step (Saved n None) stats was is = is
kept_step (Saved n (Some s)) stats was is = newer_kept stats was s is
kept_step _ stats was is = is

kept_first : (restored : Option Backup) → IsKeptOf (stats_found restored []) (kept restored [])
kept_first None = refl
kept_first (Some b) = step b.base
  where
    step : (base : Option Stat) → IsKeptOf (elim base [ None ↦ [] | Some s ↦ s ∷ [] ]) base
    step None = refl
    step (Some s) = only s

pub keeps_last_of_greatest : KeepsLastOfGreatest
keeps_last_of_greatest restored [] = kept_first restored
keeps_last_of_greatest restored (d ∷ ds) = kept_step d.outcome (stats_found restored ds) (kept restored ds) (keeps_last_of_greatest restored ds)

-- The laws of versions and of the trail are proved here.
use Rattle.std.specs.Prelude.{◌≡◌, ℕ, ◌+◌, List, [], ◌∷◌, ◌++◌, reverse, take, length, if◌then◌else◌, Option, Some, None, refl}
use Rattle.std.proofs.Common.{arith, ap, sym, ◌∙◌, append_assoc, length-append}
use Rattle.std.proofs.lemmas.Bool.Decides.{nat_tests}
use Rattle.std.proofs.lemmas.List.{length-reverse, reverse-append}
use Rattle.std.proofs.lemmas.Grind.{common_steps}
use Rattle.hx_events.specs.declared.backup.Backup.{Backup}
use Rattle.hx_events.specs.declared.event.Event.{Event}
use Rattle.hx_events.specs.declared.outcome.Outcome.{Outcome}
use Rattle.hx_events.specs.declared.outcome.Outcome.TheVariants.{Opened, Created, Edited, Undone, Redone, Reverted}
use Rattle.hx_rules.specs.Versions.{Version, adds_version, Trail, trail_of, versions_after, version_at, last_version, alternative, versions}
use Rattle.hx_rules_laws.specs.Trails.{LastVersionCounts, EditLaws, UndoLaws, RedoLaws, TrailsChange}

counts_step : (outcome : Outcome) (event : Event) (content : List ℕ) (back : Version) (vs : List Version) (n : ℕ) → length vs ≡ n → length (versions_after outcome event content back vs) ≡ (if adds_version outcome then n + 1 else n)
counts_step (Opened s) event content back vs n is = grind arith
counts_step (Created v) event content back vs n is = grind arith
counts_step (Edited v) event content back vs n is = grind arith
counts_step (Undone v) event content back vs n is = grind arith
counts_step (Redone v) event content back vs n is = grind arith
counts_step (Reverted s) event content back vs n is = grind arith
counts_step _ event content back vs n is = is

counts_first : (restored : Option Backup) → length (versions restored []) ≡ last_version restored []
counts_first None = refl
counts_first (Some b) = refl

pub last_version_counts : LastVersionCounts
last_version_counts restored [] = counts_first restored
last_version_counts restored (d ∷ ds) = counts_step d.outcome d.event d.content (version_at (alternative restored (d ∷ ds)) (versions restored ds)) (versions restored ds) (last_version restored ds) (last_version_counts restored ds)

reverse-cons : (n : ℕ) (xs : List ℕ) → reverse (n ∷ xs) ≡ reverse xs ++ n ∷ []
reverse-cons n xs = reverse-append (n ∷ []) xs

take_front : (xs ys : List ℕ) (n : ℕ) → length xs ≡ n → take n (xs ++ ys) ≡ xs
take_front xs ys n is = grind (arith, common_steps)

edit_laws : (n v : ℕ) (t : Trail) → EditLaws n v t
edit_laws n v t = record {
  ids = grind (arith, common_steps, reverse-cons n t.back, take_front (reverse t.back) t.ahead (length t.back) (length-reverse t.back));
  place = grind arith;
}

-- the id at the place may stand on either side of it
moves : (back : List ℕ) (x : ℕ) (ahead : List ℕ) → reverse back ++ x ∷ ahead ≡ reverse (x ∷ back) ++ ahead
moves back x ahead = sym (ap (λ xs. xs ++ ahead) (reverse-cons x back) ∙ append_assoc (reverse back) (x ∷ []) ahead)

whole_length : (back ahead : List ℕ) → length (reverse back ++ ahead) ≡ length back + length ahead
whole_length back ahead = length-append (reverse back) ahead ∙ ap (λ n. n + length ahead) (length-reverse back)

undo_laws : (n v : ℕ) (back ahead : List ℕ) → UndoLaws n v (trail_of back ahead)
undo_laws n v [] ahead = record { possible = refl; ids = refl; place = λ h. absurd cc }
undo_laws n v (x ∷ []) ahead = record { possible = refl; ids = refl; place = λ h. absurd cc }
undo_laws n v (x ∷ (y ∷ ys)) ahead = record {
  possible = grind (arith, nat_tests);
  ids = moves (y ∷ ys) x ahead;
  place = λ h. omega arith;
}

redo_laws : (n v : ℕ) (back ahead : List ℕ) → RedoLaws n v (trail_of back ahead)
redo_laws n v back [] = record { possible = let e = whole_length back [] in grind (arith, nat_tests); ids = refl; place = λ h. absurd cc }
redo_laws n v back (x ∷ xs) = record {
  possible = let e = whole_length back (x ∷ xs) in grind (arith, nat_tests);
  ids = sym (moves back x xs);
  place = λ h. omega arith;
}

pub trails_change : TrailsChange
trails_change n v t = (edit_laws n v t, undo_laws n v t.back t.ahead, redo_laws n v t.back t.ahead)

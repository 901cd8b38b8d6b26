-- Nothing is left to do behind the last entry of the others.
use Rattle.std.proofs.lemmas.Bool.Decides.{nat_tests}
use Rattle.std.proofs.Common.{◌≡◌, ◌==◌, arith, ℕ, zero, suc, false, [], ◌∷◌, refl}
use Rattle.hx_rules.specs.Entries.{past}
use Rattle.hx_rules.specs.Interleavings.{events_of, script_of}
use Rattle.hx_events.specs.declared.outcome.Outcome.TheVariants.{Quit}
use Rattle.hx_rules_rows.specs.Story.{asks_quit}
use Rattle.hx_rules_rows.specs.Runs.{window_script, run_story}
use Rattle.hx_rules_rows.proofs.runs.a_window_a_writer_and_a_saver_interleave.Goals as goal

commands : (k : ℕ) → events_of k (past run_story) ≡ script_of k (window_script ∷ [])
commands zero = refl
commands (suc k) = let other : (0 == suc k) ≡ false = grind (arith, nat_tests) in rw other refl

pub returns-clause-interleaves : goal.returns-clause-interleaves
returns-clause-interleaves c = record {
  end = asks_quit Quit ∷ [];
  work = past run_story;
  whole = refl;
  is_work = record {
    windows = commands;
    others = refl;
    vault = record { later = []; before = past run_story; whole = refl; windows_are_done = refl; nothing_due = refl };
    saves = record { later = []; before = past run_story; whole = refl; windows_are_done = refl; nothing_due = refl };
  };
  ends = refl;
}

-- A life whose contents are within the limit.
use Rattle.std.specs.Prelude.{◌≡◌, ◌≤◌, ℕ, true, Some}
use Rattle.std.proofs.Common.{arith}
use Rattle.hx_events.specs.declared.backup.TheConstants.{CONTENT_MAX}
use Rattle.hx_rules.specs.Backups.{Begun, begun}
use Rattle.hx_rules.specs.Entries.{own}
use Rattle.hx_rules.specs.Legal.{is_legal, restored_at}
use Rattle.hx_rules.specs.Versions.{version_at, versions}
use Rattle.hx_rules_laws.specs.Limits.{IsShortBackup, contents_are_short, begun_has_few}
use Rattle.hx_rules_laws.specs.Sizes.{AreWhole, at_sized, sizes_are_lengths}
use Rattle.hx_lives.specs.Course.{Course, opening}

-- The life is legal, and no version of it and nothing that is begun is longer than a content may be.
pub record IsWithinLimits (course : Course) : Type 0 where
  pub legal : is_legal (opening course) course.entries ≡ true
  pub sizes : (c v : ℕ) → (version_at v (versions (restored_at (opening course) c) (own c course.entries))).size ≤ CONTENT_MAX
  pub begins : (c : ℕ) (b : Begun) → begun (restored_at (opening course) c) course.guarded (own c course.entries) ≡ Some b → b.size ≤ CONTENT_MAX

-- A legal life is, that kept what was read, and to which no content was restored that is too long.
pub within_limits : (course : Course) → is_legal (opening course) course.entries ≡ true → AreWhole course.entries → ((c : ℕ) → IsShortBackup (restored_at (opening course) c)) → IsWithinLimits course
within_limits course legal whole short = record {
  legal = legal;
  sizes = λ c v.
      let sized = at_sized v (versions (restored_at (opening course) c) (own c course.entries)) (sizes_are_lengths (opening course) course.entries c legal whole) in
      let few = contents_are_short (opening course) course.entries c v legal whole (short c) in
      omega (arith, sized, few);
  begins = λ c b is. begun_has_few (opening course) course.entries c b legal whole (short c) is;
}

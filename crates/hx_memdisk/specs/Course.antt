-- Which calls fail, what they count, and the modification times.
use Rattle.std.specs.Prelude.{◌≡◌, ℕ, [], None, ◌+◌, ◌-◌, ◌*◌, ◌^◌, min, Bool, if◌then◌else◌}
use Rattle.hx_memdisk.specs.Plan.{Fails}
use Rattle.hx_memdisk.specs.declared.course.Course.{Course}

-- one more, up to the last value of 64 bits
abbrev pub one_more : ℕ → ℕ
one_more count = min (count + 1) (2 ^ 64 - 1)

-- The plan has the next call fail.
abbrev pub FailsNext : Course → Type 0
FailsNext c = Fails c.plan.fails.items c.plan.fuse (one_more c.calls)

-- The modification time that the next successful write or cut sets: 1000 times the number of such calls, of all files.
abbrev pub next_mtime : Course → ℕ
next_mtime c = min (1000 * (c.writes + 1)) (2 ^ 64 - 1)

-- after one more device call, which succeeded or not
abbrev pub called : Bool → Course → Course
called ok c = record c { calls = one_more c.calls; faults = if ok then c.faults else one_more c.faults }

-- after one more write or cut: those that fail aren't counted for modification times
abbrev pub wrote : Bool → Course → Course
wrote ok c = record c { calls = one_more c.calls; faults = if ok then c.faults else one_more c.faults; writes = if ok then one_more c.writes else c.writes }

-- After a crash no call is planned to fail, and the calls are numbered from 1 again. The writes and the faults go on being counted.
pub record StartsAnew (old new : Course) : Type 0 where
  pub no_fails : new.plan.fails.items ≡ []
  pub no_fuse : new.plan.fuse ≡ None
  pub calls : new.calls ≡ 0
  pub writes : new.writes ≡ old.writes
  pub faults : new.faults ≡ old.faults

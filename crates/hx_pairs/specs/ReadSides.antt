-- What a vault that was just opened gives: the invariant with no entry.
use Rattle.std.specs.Prelude.{◌≡◌, ◌≢◌, ◌<◌, ◌≤◌, ℕ, ◌==◌, Bool, true, false, if◌then◌else◌, List, [], ◌∷◌, length, slice_index, get_or, Option, Some, None, refl}
use Rattle.std.proofs.Common.{sym, ◌∙◌, ap, subst, arith}
use Rattle.std.proofs.lemmas.Bool.Decides.{nat_tests}
use Rattle.hx_slots.specs.Laws.{empty_frames_nothing}
use Rattle.hx_vault.specs.Vaults.{reads_shut}
use Rattle.hx_disk.specs.File.{FileState, IsAtRest, IsOutside}
use Rattle.hx_disk.specs.Images.{rest_settled}
use Rattle.hx_events.specs.declared.backup.Backup.{Backup}
use Rattle.hx_events.specs.declared.backup.Side.{Side}
use Rattle.hx_record.specs.Records.{record_in}
use Rattle.hx_rules.specs.Backups.{Snapshot, snapshot}
use Rattle.hx_rules.specs.Marks.{Marks}
use Rattle.hx_slots.specs.Frames.{Frame, framed, shown_in}
use Rattle.hx_slots.specs.Gate.{closed_shows_nothing}
use Rattle.hx_vault.specs.Sides.{SideState, Shut, Still, IsSide, puts_none}
use Rattle.hx_pairs.specs.OnePair.{Quiet, Reads, side_stamp, IsHome, LosesTo, Loses, IsAway, PairInvariant}

-- what is known of a file at rest by its reading
abbrev pub scanned_by : Bool → Option Frame → SideState
scanned_by true shown = Shut []
scanned_by false shown = Still shown true

abbrev pub scanned : List ℕ → SideState
scanned reading = scanned_by (reads_shut reading) (shown_in reading)

is_one : (n : ℕ) → (n == 1) ≡ true → n ≡ 1
is_one n h = grind (arith, nat_tests)

not_one : (n : ℕ) → (n == 1) ≡ false → n ≢ 1
not_one n h same = grind (arith, nat_tests)

shown_nil : shown_in [] ≡ None
unfolding shown_in
shown_nil = refl

framed_shown : (reading : List ℕ) → reads_shut reading ≡ false → framed reading ≡ shown_in reading
unfolding shown_in
framed_shown [] h = empty_frames_nothing ∙ sym shown_nil
framed_shown (gate ∷ rest) h = go (gate == 1) h
  where
    go : (t : Bool) → (if t then false else true) ≡ false → framed (gate ∷ rest) ≡ (if t then framed (gate ∷ rest) else None)
    go true e = refl
    go false e = absurd cc

reads_gate : (reading : List ℕ) → reads_shut reading ≡ true → (0 < length reading) × (slice_index reading 0 ≢ 1)
reads_gate [] h = absurd cc
reads_gate (gate ∷ rest) h = (omega arith, go (gate == 1) refl h)
  where
    go : (t : Bool) → (gate == 1) ≡ t → (if t then false else true) ≡ true → gate ≢ 1
    go true is e = absurd cc
    go false is e = not_one gate is

-- A file at rest is known by its reading.
pub scanned_side : (file : FileState) → IsAtRest file → IsSide (scanned file.reading) file
scanned_side file rest = go (reads_shut file.reading) refl
  where
    go : (t : Bool) → reads_shut file.reading ≡ t → IsSide (scanned_by t (shown_in file.reading)) file
    go true shut =
        let gate = reads_gate file.reading shut in (
          record {
            gate = record { below = omega (arith, gate.0, rest.least); outside = subst (λ (w : List (ℕ × ℕ)). IsOutside w 0) (sym rest.written) tt };
            shut = λ one. gate.1 (ap (λ (l : List ℕ). get_or l 0 0) (sym rest.stable) ∙ one);
          },
          puts_none file,
        )
    go false loose = (
      (λ image is. ap framed (rest_settled file rest image is) ∙ framed_shown file.reading loose),
      λ image is. ap shown_in (rest_settled file rest image is),
    )

-- a known closed file shows nothing
shut_silent : (reading : List ℕ) → reads_shut reading ≡ true → shown_in reading ≡ None
shut_silent reading shut = let gate = reads_gate reading shut in closed_shows_nothing reading gate.1

pub scanned_quiet : (reading : List ℕ) → shown_in reading ≡ None → Quiet (scanned reading)
scanned_quiet reading silent = go (reads_shut reading)
  where
    go : (t : Bool) → Quiet (scanned_by t (shown_in reading))
    go true = tt
    go false = subst (λ (x : Option Frame). Quiet (Still x true)) (sym silent) tt

-- what a scanned side is where it shows a frame
scanned_shows : (reading : List ℕ) (frame : Frame) → shown_in reading ≡ Some frame → scanned reading ≡ Still (Some frame) true
scanned_shows reading frame shows = go (reads_shut reading) refl
  where
    go : (t : Bool) → reads_shut reading ≡ t → scanned_by t (shown_in reading) ≡ Still (Some frame) true
    go true shut = absurd (let e : Some frame ≡ None = sym shows ∙ shut_silent reading shut in cc)
    go false loose = ap (λ (x : Option Frame). Still x true) shows

-- by what the two sides show, which of them counts
pub record Counts (home : Side) (here away : Option Frame) (backup : Backup) : Type 0 where
  pub frame : Frame
  pub is : here ≡ Some frame
  pub reads : Reads frame backup
  pub loses : (other : Frame) → away ≡ Some other → LosesTo home frame.stamp other.stamp (record_in other.form other.body)

-- with these marks a pair is opened that holds this backup
abbrev pub first_marks : Option Snapshot → Bool → Marks
first_marks was opened = record { done = was; tried = None; undone = false; opened = opened; begun = None; faded = false; halted = false }

away_loses : (home : Side) (s : ℕ) (reading : List ℕ) → ((other : Frame) → shown_in reading ≡ Some other → LosesTo home s other.stamp (record_in other.form other.body)) → Loses home s (scanned reading)
away_loses home s reading loses = go (reads_shut reading) (shown_in reading) loses
  where
    go : (t : Bool) (x : Option Frame) → ((other : Frame) → x ≡ Some other → LosesTo home s other.stamp (record_in other.form other.body)) → Loses home s (scanned_by t x)
    go true x h = tt
    go false None h = tt
    go false (Some other) h = h other refl

-- A pair that was found to hold a backup keeps the invariant for its resource.
pub found_keeps : (home : Side) (here away : List ℕ) (backup : Backup) (most : ℕ) → Counts home (shown_in here) (shown_in away) backup → ((frame : Frame) → shown_in here ≡ Some frame → frame.stamp ≤ most)
    → PairInvariant backup.resource (first_marks (Some (snapshot 1 backup.base backup.content)) true) home most (scanned here) (scanned away)
found_keeps home here away backup most counts within =
    let is : scanned here ≡ Still (Some counts.frame) true = scanned_shows here counts.frame counts.is in
    let u : Bool = false in
    let s : Option Snapshot = Some (snapshot 1 backup.base backup.content) in
    record {
      at_home = subst (IsHome backup.resource most false s) (sym is) (counts.reads, within counts.frame counts.is, λ h. refl);
      at_away = subst (λ (x : SideState). IsAway home backup.resource false s None (side_stamp x) (scanned away)) (sym is) (away_loses home counts.frame.stamp away counts.loses);
      if_faded = λ h. absurd cc;
      if_begun = tt;
    }

-- What each stage makes of a pair's sides, over data alone.
use Rattle.std.specs.Prelude.{◌≡◌, ◌<◌, ◌≤◌, ◌⊎◌, ℕ, ◌+◌, ◌*◌, Bool, true, false, nat_lt, if◌then◌else◌, List, [], ◌++◌, ◌≢◌, length, take, drop, Option, Some, None, is_some, Result, Ok, Err, refl}
use Rattle.std.proofs.Common.{sym, ◌∙◌, ap, subst, inl, inr, arith, take-add}
use Rattle.std.proofs.lemmas.Bool.Decides.{nat_tests}
use Rattle.hx_events.specs.declared.backup.Backup.{Backup}
use Rattle.hx_events.specs.declared.backup.Side.{Side}
use Rattle.hx_events.specs.declared.backup.Side.TheVariants.{A, B}
use Rattle.hx_events.specs.declared.event.Stage.TheVariants.{Open, Body}
use Rattle.hx_record.specs.declared.error.RecordError.{RecordError}
use Rattle.hx_record.specs.Records.{record_in}
use Rattle.hx_rules.specs.Backups.{Snapshot, Begun, begun_of, backup_of, blocks_of}
use Rattle.hx_rules.specs.Due.{next_stage}
use Rattle.hx_rules.specs.Marks.{Marks}
use Rattle.hx_slots.specs.Frames.{Frame}
use Rattle.hx_vault.specs.Sides.{SideState, Shut, Still, IsFrame, is_closed, loosened}
use Rattle.std.proofs.lemmas.List.{take_all, append_assoc}
use Rattle.std.proofs.lemmas.Bool.{cases_eq}
use Rattle.hx_vault.specs.Vaults.{other_side}
use Rattle.hx_pairs.specs.OnePair.{Quiet, Reads, side_stamp, IsHome, LosesTo, Loses, IsAway, IsPutting, IsBegun, PairInvariant}

quiet_loosened : (s : SideState) → Quiet s → Quiet (loosened s)
quiet_loosened (Shut frame) quiet = quiet
quiet_loosened (Still None sure) quiet = quiet
quiet_loosened (Still (Some frame) sure) quiet = absurd quiet

loses_loosened : (home : Side) (s : ℕ) (away : SideState) → Loses home s away → Loses home s (loosened away)
loses_loosened home s (Shut frame) loses = loses
loses_loosened home s (Still None sure) loses = loses
loses_loosened home s (Still (Some frame) sure) loses = loses

-- a side that isn't home may be known less well
pub away_loosened : (home : Side) (resource : List ℕ) (undone : Bool) (was tried : Option Snapshot) (s : ℕ) (away : SideState) → IsAway home resource undone was tried s away → IsAway home resource undone was tried s (loosened away)
away_loosened home resource undone was (Some t) s (Shut frame) is = absurd is
away_loosened home resource undone was (Some t) s (Still None sure) is = absurd is
away_loosened home resource undone was (Some t) s (Still (Some frame) sure) is = is
away_loosened home resource undone None None s away is = quiet_loosened away is
away_loosened home resource true (Some b) None s away is = quiet_loosened away is
away_loosened home resource false (Some b) None s away is = loses_loosened home s away is

-- a closed side that isn't home serves where nothing was tried
pub away_shut : (home : Side) (resource : List ℕ) (undone : Bool) (was : Option Snapshot) (s : ℕ) (away : SideState) → is_closed away ≡ true → IsAway home resource undone was None s away
away_shut home resource undone None s (Shut frame) shut = tt
away_shut home resource true (Some b) s (Shut frame) shut = tt
away_shut home resource false (Some b) s (Shut frame) shut = tt
away_shut home resource undone was s (Still frame sure) shut = absurd cc

away_put : (home : Side) (resource : List ℕ) (undone : Bool) (was tried : Option Snapshot) (s : ℕ) (put more : List ℕ) → IsAway home resource undone was tried s (Shut put) → IsAway home resource undone was tried s (Shut more)
away_put home resource undone was (Some t) s put more is = absurd is
away_put home resource undone None None s put more is = tt
away_put home resource true (Some b) None s put more is = tt
away_put home resource false (Some b) None s put more is = tt

home_rises : (resource : List ℕ) (most more : ℕ) (undone : Bool) (was : Option Snapshot) (here : SideState) → most ≤ more → IsHome resource most undone was here → IsHome resource more undone was here
home_rises resource most more undone None here le home = home
home_rises resource most more undone (Some b) (Shut frame) le home = absurd home
home_rises resource most more undone (Some b) (Still None sure) le home = absurd home
home_rises resource most more undone (Some b) (Still (Some frame) sure) le home = (home.0, omega (arith, home.1, le), home.2)

-- the stamp that home shows was given out
home_stamp : (resource : List ℕ) (most : ℕ) (undone : Bool) (was : Option Snapshot) (here : SideState) → IsHome resource most undone was here → is_some was ≡ true → side_stamp here ≤ most
home_stamp resource most undone None here home there = absurd cc
home_stamp resource most undone (Some b) (Shut frame) home there = absurd home
home_stamp resource most undone (Some b) (Still None sure) home there = absurd home
home_stamp resource most undone (Some b) (Still (Some frame) sure) home there = home.1

pub is_closed_loosened : (s : SideState) → is_closed (loosened s) ≡ is_closed s
is_closed_loosened (Shut frame) = refl
is_closed_loosened (Still frame sure) = refl

-- a backup that has just begun has no block
begun_now : (resource : List ℕ) (most : ℕ) (was : Option Snapshot) (s : ℕ) (b : Begun) → b.blocks ≡ 0 → (is_some was ≡ true → s < most) → IsBegun resource most was s (Some b) (Shut [])
begun_now resource most was s b first above = (above, (λ h. refl), λ h. absurd (omega (arith, h, first)))

-- Prepare, done: the side that isn't home is closed, and a new stamp is given out.
pub prepare_ok : (resource : List ℕ) (m : Marks) (home : Side) (most : ℕ) (here away : SideState) (b : Begun) → b.blocks ≡ 0 → PairInvariant resource m home most here away
    → PairInvariant resource (record m { tried = None; begun = Some b; faded = false }) home (most + 1) here (Shut [])
prepare_ok resource m home most here away b first keeps = record {
  at_home = home_rises resource most (most + 1) m.undone m.done here (omega arith) keeps.at_home;
  at_away = away_shut home resource m.undone m.done (side_stamp here) (Shut []) refl;
  if_faded = λ h. absurd cc;
  if_begun = begun_now resource (most + 1) m.done (side_stamp here) b first
      (λ there. let le : side_stamp here ≤ most = home_stamp resource most m.undone m.done here keeps.at_home there in omega (arith, le));
}

-- A closing of the side that isn't home, in hand or failed.
pub close_fault : (resource : List ℕ) (m : Marks) (home : Side) (most more : ℕ) (here away : SideState) → most ≤ more → PairInvariant resource m home most here away
    → PairInvariant resource (record m { begun = None; faded = false; halted = true }) home more here (loosened away)
close_fault resource m home most more here away le keeps = record {
  at_home = home_rises resource most more m.undone m.done here le keeps.at_home;
  at_away = away_loosened home resource m.undone m.done m.tried (side_stamp here) away keeps.at_away;
  if_faded = λ h. absurd cc;
  if_begun = tt;
}

-- the frame that an Open stage opens
pub record IsReady (resource : List ℕ) (m : Marks) (most : ℕ) (here away : SideState) (b : Begun) : Type 0 where
  pub put : List ℕ
  pub frame : Frame
  pub is : away ≡ Shut put
  pub whole : IsFrame put frame
  pub reads : Reads frame (backup_of resource b.snapshot)
  pub within : frame.stamp ≤ most
  pub above : is_some m.done ≡ true → side_stamp here < frame.stamp

-- as many blocks as a content of this size has
all_blocks : (n size : ℕ) → (if nat_lt n (blocks_of size) then Body else Open) ≡ Open → blocks_of size ≤ n
all_blocks n size is = go (nat_lt n (blocks_of size)) (λ h. not_lt n (blocks_of size) h) is
  where
    not_lt : (a b : ℕ) → nat_lt a b ≡ false → b ≤ a
    not_lt a b h = grind (arith, nat_tests)

    go : (t : Bool) → (t ≡ false → blocks_of size ≤ n) → (if t then Body else Open) ≡ Open → blocks_of size ≤ n
    go true h e = absurd cc
    go false h e = h refl

blocks_cover : (n size : ℕ) → blocks_of size ≤ n → (0 < n) × (size ≤ 4096 * n)
blocks_cover n size le = (omega (arith, le), omega (arith, le))

pub ready : (resource : List ℕ) (m : Marks) (home : Side) (most : ℕ) (here away : SideState) (b : Begun) → m.begun ≡ Some b → next_stage b ≡ Open → b.size ≡ length b.snapshot.content → PairInvariant resource m home most here away → IsReady resource m most here away b
ready resource m home most here away b begun next sized keeps = go away (subst (λ (x : Option Begun). IsBegun resource most m.done (side_stamp here) x away) begun keeps.if_begun)
  where
    cover : (0 < b.blocks) × (b.size ≤ 4096 * b.blocks)
    cover = blocks_cover b.blocks b.size (all_blocks b.blocks b.size next)

    go : (side : SideState) → IsBegun resource most m.done (side_stamp here) (Some b) side → IsReady resource m most here side b
    go (Still frame sure) is = absurd is
    go (Shut put) is =
        let p = is.2 cover.0 in
        record {
          put = put;
          frame = p.frame;
          is = refl;
          whole = subst (λ (l : List ℕ). IsFrame l p.frame) (sym (p.bytes ∙ ap (λ (l : List ℕ). p.head ++ l) (take_all (4096 * b.blocks) b.snapshot.content (omega (arith, cover.1, sized))))) p.whole;
          reads = p.reads;
          within = p.within;
          above = p.above;
        }

-- Open, in hand or failed: the backup may be shown.
pub open_fault : (resource : List ℕ) (m : Marks) (home : Side) (most : ℕ) (here away : SideState) (b : Begun) (r : IsReady resource m most here away b) → PairInvariant resource m home most here away
    → PairInvariant resource (record m { tried = Some b.snapshot; opened = true; begun = None; faded = false; halted = true }) home most here (Still (Some r.frame) false)
open_fault resource m home most here away b r keeps = record {
  at_home = keeps.at_home;
  at_away = r.reads;
  if_faded = λ h. absurd cc;
  if_begun = tt;
}

-- the old home doesn't count beside the new one
old_home : (home : Side) (resource : List ℕ) (most z : ℕ) (undone : Bool) (was : Option Snapshot) (here : SideState) → IsHome resource most undone was here → (is_some was ≡ true → side_stamp here < z) → Loses (other_side home) z here
old_home home resource most z undone was (Shut frame) is above = tt
old_home home resource most z undone was (Still None sure) is above = tt
old_home home resource most z undone None (Still (Some frame) sure) is above = absurd is
old_home A resource most z undone (Some b) (Still (Some frame) sure) is above = loses (record_in frame.form frame.body)
  where
    loses : (r : Result Backup RecordError) → LosesTo B z frame.stamp r
    loses (Err error) = tt
    loses (Ok backup) = above refl
old_home B resource most z undone (Some b) (Still (Some frame) sure) is above = loses (record_in frame.form frame.body)
  where
    loses : (r : Result Backup RecordError) → LosesTo A z frame.stamp r
    loses (Err error) = tt
    loses (Ok backup) = let lt : frame.stamp < z = above refl in omega (arith, lt)

-- Open, done: the side that was written is home.
pub open_ok : (resource : List ℕ) (m : Marks) (home : Side) (most : ℕ) (here away : SideState) (b : Begun) (r : IsReady resource m most here away b) → PairInvariant resource m home most here away
    → PairInvariant resource (record m { done = Some b.snapshot; tried = None; undone = false; opened = true; begun = None; faded = false }) (other_side home) most (Still (Some r.frame) true) here
open_ok resource m home most here away b r keeps = record {
  at_home = (r.reads, r.within, λ h. refl);
  at_away = old_home home resource most r.frame.stamp m.undone m.done here keeps.at_home r.above;
  if_faded = λ h. absurd cc;
  if_begun = tt;
}

-- Any other outcome: a begun backup may end.
pub marks_less : (resource : List ℕ) (m : Marks) (home : Side) (most : ℕ) (here away : SideState) (goes_on halt : Bool) → PairInvariant resource m home most here away
    → PairInvariant resource (record m { begun = if goes_on then m.begun else None; halted = halt }) home most here away
marks_less resource m home most here away true halt keeps = record { at_home = keeps.at_home; at_away = keeps.at_away; if_faded = keeps.if_faded; if_begun = keeps.if_begun }
marks_less resource m home most here away false halt keeps = record { at_home = keeps.at_home; at_away = keeps.at_away; if_faded = keeps.if_faded; if_begun = tt }

begun_rises : (resource : List ℕ) (most more : ℕ) (was : Option Snapshot) (s : ℕ) (b : Option Begun) (away : SideState) → most ≤ more → IsBegun resource most was s b away → IsBegun resource more was s b away
begun_rises resource most more was s None away le is = tt
begun_rises resource most more was s (Some b) (Still frame sure) le is = absurd is
begun_rises resource most more was s (Some b) (Shut put) le is = (
  (λ there. let lt : s < most = is.0 there in omega (arith, lt, le)),
  is.1,
  λ some. let p = is.2 some in record { head = p.head; frame = p.frame; whole = p.whole; reads = p.reads; within = omega (arith, p.within, le); above = p.above; bytes = p.bytes },
)

-- the stamps given out may be more
pub keeps_more : (resource : List ℕ) (m : Marks) (home : Side) (most more : ℕ) (here away : SideState) → most ≤ more → PairInvariant resource m home most here away → PairInvariant resource m home more here away
keeps_more resource m home most more here away le keeps = record {
  at_home = home_rises resource most more m.undone m.done here le keeps.at_home;
  at_away = keeps.at_away;
  if_faded = keeps.if_faded;
  if_begun = begun_rises resource most more m.done (side_stamp here) m.begun away le keeps.if_begun;
}

-- one block more behind those that stand there
pub body_ok : (resource : List ℕ) (m : Marks) (home : Side) (most : ℕ) (here : SideState) (b : Begun) (put block : List ℕ) (goes_on : Bool) → m.begun ≡ Some b → IsPutting resource most m.done (side_stamp here) (begun_of b.snapshot b.size (b.blocks + 1)) (put ++ block) → PairInvariant resource m home most here (Shut put)
    → PairInvariant resource (record m { begun = if goes_on then Some (begun_of b.snapshot b.size (b.blocks + 1)) else None; faded = false }) home most here (Shut (put ++ block))
body_ok resource m home most here b put block goes_on begun more keeps = record {
  at_home = keeps.at_home;
  at_away = away_put home resource m.undone m.done m.tried (side_stamp here) put (put ++ block) keeps.at_away;
  if_faded = λ h. absurd cc;
  if_begun = go goes_on;
}
  where
    go : (t : Bool) → IsBegun resource most m.done (side_stamp here) (if t then Some (begun_of b.snapshot b.size (b.blocks + 1)) else None) (Shut (put ++ block))
    go true = let was = subst (λ (x : Option Begun). IsBegun resource most m.done (side_stamp here) x (Shut put)) begun keeps.if_begun in (was.0, (λ h. absurd (omega (arith, h))), λ h. more)
    go false = tt

-- Fade, done.
pub fade_ok : (resource : List ℕ) (m : Marks) (home : Side) (most : ℕ) (here away : SideState) (goes_on : Bool) → m.begun ≡ None → PairInvariant resource m home most here away
    → PairInvariant resource (record m { tried = None; begun = if goes_on then m.begun else None; faded = true }) home most here (Shut [])
fade_ok resource m home most here away goes_on none keeps = record {
  at_home = keeps.at_home;
  at_away = away_shut home resource m.undone m.done (side_stamp here) (Shut []) refl;
  if_faded = λ h. refl;
  if_begun = go goes_on;
}
  where
    go : (t : Bool) → IsBegun resource most m.done (side_stamp here) (if t then m.begun else None) (Shut [])
    go true = subst (λ (x : Option Begun). IsBegun resource most m.done (side_stamp here) x (Shut [])) (sym none) tt
    go false = tt

home_loosened : (resource : List ℕ) (most : ℕ) (undone : Bool) (was : Option Snapshot) (here : SideState) → IsHome resource most undone was here → IsHome resource most true was (loosened here)
home_loosened resource most undone None here home = quiet_loosened here home
home_loosened resource most undone (Some b) (Shut put) home = absurd home
home_loosened resource most undone (Some b) (Still None sure) home = absurd home
home_loosened resource most undone (Some b) (Still (Some frame) sure) home = (home.0, home.1, λ h. absurd cc)

-- Drop, in hand or failed: home may show nothing.
pub drop_fault : (resource : List ℕ) (m : Marks) (home : Side) (most : ℕ) (here away : SideState) → m.tried ≡ None → m.faded ≡ true → PairInvariant resource m home most here away
    → PairInvariant resource (record m { undone = true; begun = None; faded = false; halted = true }) home most (loosened here) away
drop_fault resource m home most here away none faded keeps = record {
  at_home = home_loosened resource most m.undone m.done here keeps.at_home;
  at_away = subst (λ (t : Option Snapshot). IsAway home resource true m.done t (side_stamp (loosened here)) away) (sym none) (away_shut home resource true m.done (side_stamp (loosened here)) away (keeps.if_faded faded));
  if_faded = λ h. absurd cc;
  if_begun = tt;
}

-- Drop, done: both sides are closed.
pub drop_ok : (resource : List ℕ) (m : Marks) (home : Side) (most : ℕ) (here away : SideState) (goes_on : Bool) → m.tried ≡ None → m.faded ≡ true → m.begun ≡ None → PairInvariant resource m home most here away
    → PairInvariant resource (record m { done = None; undone = false; opened = false; begun = if goes_on then m.begun else None; faded = false }) home most (Shut []) away
drop_ok resource m home most here away goes_on none faded idle keeps = record {
  at_home = tt;
  at_away = subst (λ (t : Option Snapshot). IsAway home resource false None t 0 away) (sym none) (away_shut home resource false None 0 away (keeps.if_faded faded));
  if_faded = λ h. absurd cc;
  if_begun = go goes_on;
}
  where
    go : (t : Bool) → IsBegun resource most None 0 (if t then m.begun else None) away
    go true = subst (λ (x : Option Begun). IsBegun resource most None 0 x away) (sym idle) tt
    go false = tt

-- the bytes of the next block: the head and the first block of the content, then one block after another
abbrev pub IsBlock : List ℕ → ℕ → Begun → List ℕ → Type 0
IsBlock resource most b block =
    (b.blocks ≡ 0 → (head : List ℕ) × (frame : Frame) × IsFrame (head ++ b.snapshot.content) frame × Reads frame (backup_of resource b.snapshot) × (frame.stamp ≡ most) × (block ≡ head ++ take 4096 b.snapshot.content))
    × (0 < b.blocks → block ≡ take 4096 (drop (4096 * b.blocks) b.snapshot.content))

pub next_putting : (resource : List ℕ) (most : ℕ) (was : Option Snapshot) (s : ℕ) (b : Begun) (put block : List ℕ) → IsBegun resource most was s (Some b) (Shut put) → IsBlock resource most b block → IsPutting resource most was s (begun_of b.snapshot b.size (b.blocks + 1)) (put ++ block)
next_putting resource most was s b put block is is_block = go (cases_eq b.blocks 0)
  where
    go : (b.blocks ≡ 0) ⊎ (b.blocks ≢ 0) → IsPutting resource most was s (begun_of b.snapshot b.size (b.blocks + 1)) (put ++ block)
    go (inl none) =
        let k = is_block.0 none in
        record {
          head = k.0;
          frame = k.1;
          whole = k.2;
          reads = k.3;
          within = omega (arith, k.4);
          above = λ there. let lt : s < most = is.0 there in omega (arith, lt, k.4);
          bytes = ap (λ (l : List ℕ). l ++ block) (is.1 none) ∙ k.5 ∙ ap (λ n. k.0 ++ take n b.snapshot.content) (let e : 4096 ≡ 4096 * (b.blocks + 1) = omega (arith, none) in e);
        }
    go (inr some) =
        let p = is.2 (omega (arith, some)) in
        let content = b.snapshot.content in
        record {
          head = p.head;
          frame = p.frame;
          whole = p.whole;
          reads = p.reads;
          within = p.within;
          above = p.above;
          bytes = ap (λ (l : List ℕ). l ++ block) p.bytes ∙ append_assoc p.head (take (4096 * b.blocks) content) block
              ∙ ap (λ (l : List ℕ). p.head ++ (take (4096 * b.blocks) content ++ l)) (is_block.1 (omega (arith, some)))
              ∙ ap (λ (l : List ℕ). p.head ++ l) (sym (take-add (4096 * b.blocks) 4096 content))
              ∙ ap (λ n. p.head ++ take n content) (let e : 4096 * b.blocks + 4096 ≡ 4096 * (b.blocks + 1) = omega arith in e);
        }

-- what a begun backup's other side is
pub begun_shut : (resource : List ℕ) (most : ℕ) (was : Option Snapshot) (s : ℕ) (b : Begun) (side : SideState) → IsBegun resource most was s (Some b) side → (put : List ℕ) × (side ≡ Shut put)
begun_shut resource most was s b (Shut put) is = (put, refl)
begun_shut resource most was s b (Still frame sure) is = absurd is

-- a block in hand, or one that failed: the gate is closed, and nothing is known of what stands behind it
pub body_fault : (resource : List ℕ) (m : Marks) (home : Side) (most : ℕ) (here : SideState) (put : List ℕ) → PairInvariant resource m home most here (Shut put)
    → PairInvariant resource (record m { begun = None; faded = false; halted = true }) home most here (Shut [])
body_fault resource m home most here put keeps = record {
  at_home = keeps.at_home;
  at_away = away_put home resource m.undone m.done m.tried (side_stamp here) put [] keeps.at_away;
  if_faded = λ h. absurd cc;
  if_begun = tt;
}

-- The stamps that slot files may show: none is above the greatest that was given out. In a history that began with an empty vault each
-- entry's number is at most the stamp beside it, too.
use Rattle.std.specs.Prelude.{◌≡◌, ◌≢◌, ◌<◌, ◌≤◌, ◌+◌, ◌*◌, ◌⊎◌, ℕ, zero, suc, Bool, true, false, List, [], length, Option, Some, None, Result, Ok, Err, ⊤, ◌^◌, refl}
use Rattle.std.proofs.Common.{sym, ◌∙◌, ap, subst, inl, inr, ⊎_elim, arith}
use Rattle.std.proofs.Math.Path.{fun_ext}
use Rattle.std.proofs.lemmas.Bool.Decides.{eqb_tells}
use Rattle.std.proofs.lemmas.List.{get_or-set_same, get_or-set_other}
use Rattle.hx_disk.specs.Disk.{ChangesNothing, Through, IsDiskImage}
use Rattle.hx_disk.specs.File.{FileState}
use Rattle.hx_disk.specs.Runs.{through_now, others_now}
use Rattle.hx_events.specs.declared.backup.Backup.{Backup}
use Rattle.hx_events.specs.declared.backup.Side.{Side}
use Rattle.hx_events.specs.declared.backup.Side.TheVariants.{A, B}
use Rattle.hx_slots.specs.Files.{file_of}
use Rattle.hx_slots.specs.Frames.{Frame, shown_in}
use Rattle.hx_slots.specs.Raws.{greatest_shown, greatest_stamp, stamp_of}
use Rattle.hx_vault.specs.declared.pair.Pair.{Pair}
use Rattle.hx_vault.specs.declared.pair.PairUse.{PairUse}
use Rattle.hx_vault.specs.Sides.{SideState, Shut, Still, CanShow, IsSide, WhereKnown, can_show, is_closed, loosened}
use Rattle.hx_vault.specs.Vaults.{VaultState, no_pair, other_side, is_shut, pair_at, rehomed, with_pair, with_put, with_shut, with_use}
use Rattle.hx_pairs.specs.Moves.{other_file, other_pair}
use Rattle.hx_pairs.specs.OnePair.{Reads, side_stamp}
use Rattle.hx_pairs.specs.Stages.{is_closed_loosened}
use Rattle.hx_record.specs.declared.error.RecordError.{RecordError}
use Rattle.hx_history_laws.specs.declared.entry.HistoryEntry.{HistoryEntry}
use Rattle.hx_history_laws.specs.Entries.{backup_of_entry}
use Rattle.hx_history_laws.specs.PairRuns.{Moments}
use Rattle.hx_history_laws.specs.Placed.{same_number}

-- An entry's number is at most its stamp where the frame is one of an entry.
abbrev pub IsNumbered : Frame → Type 0
IsNumbered frame = (e : HistoryEntry) → e.number < 2 ^ 64 → Reads frame (backup_of_entry e) → e.number ≤ frame.stamp

-- the same of what a side may show
abbrev pub IsNumberedSide : SideState → Type 0
IsNumberedSide (Shut put) = ⊤
IsNumberedSide (Still None sure) = ⊤
IsNumberedSide (Still (Some frame) sure) = IsNumbered frame

-- What is known of one side of a pair: it shows no stamp above this, and where `own` is true no entry with a greater number.
pub record IsStamped (own : Bool) (v : VaultState) (most p : ℕ) (side : Side) (files : ℕ → FileState) : Type 0 where
  pub state : SideState
  pub is : IsSide state (files (file_of p side))
  pub known : is_closed state ≡ is_shut (pair_at v p) side
  pub within : side_stamp state ≤ most
  pub numbered : own ≡ true → IsNumberedSide state

-- No slot file may show a stamp above the greatest that was given out.
abbrev pub AreStamped : Bool → VaultState → (ℕ → FileState) → Type 0
AreStamped own v files = (p : ℕ) (side : Side) → p < 64 → IsStamped own v v.stamp p side files

-- each entry that shows in this image has a number of at most the stamp beside it
abbrev pub AreNumbered : (ℕ → List ℕ) → Type 0
AreNumbered image = (p : ℕ) (side : Side) (frame : Frame) → p < 64 → shown_in (image (file_of p side)) ≡ Some frame → IsNumbered frame

-- Whatever a crash leaves of these files has such numbers, as those of a vault do that was empty at first.
abbrev pub AreOwn : (ℕ → FileState) → Type 0
AreOwn files = (image : ℕ → List ℕ) → IsDiskImage files image → AreNumbered image

-- Whatever a crash leaves shows no stamp above this.
abbrev pub NoneAbove : ℕ → (ℕ → FileState) → Type 0
NoneAbove most files = (image : ℕ → List ℕ) → IsDiskImage files image → greatest_stamp image ≤ most

-- ---- what is shown

no_more : (frame : Option Frame) (sure : Bool) (most : ℕ) (shown : Option Frame) → side_stamp (Still frame sure) ≤ most → shown ≡ frame → stamp_of shown ≤ most
no_more None sure most shown within is = subst (λ (x : Option Frame). stamp_of x ≤ most) (sym is) (omega arith)
no_more (Some f) sure most shown within is = subst (λ (x : Option Frame). stamp_of x ≤ most) (sym is) within

shown_within : (state : SideState) (most : ℕ) (shown : Option Frame) → side_stamp state ≤ most → CanShow state shown → stamp_of shown ≤ most
shown_within (Shut put) most shown within is = subst (λ (x : Option Frame). stamp_of x ≤ most) (sym is) (omega arith)
shown_within (Still frame true) most shown within is = no_more frame true most shown within is
shown_within (Still frame false) most shown within (inl none) = subst (λ (x : Option Frame). stamp_of x ≤ most) (sym none) (omega arith)
shown_within (Still frame false) most shown within (inr is) = no_more frame false most shown within is

pub none_shown_above : (a b : ℕ → List ℕ) (n most : ℕ) → ((p : ℕ) → p < n → stamp_of (shown_in (a p)) ≤ most) → ((p : ℕ) → p < n → stamp_of (shown_in (b p)) ≤ most) → greatest_shown a b n ≤ most
none_shown_above a b zero most in_a in_b = omega arith
none_shown_above a b (suc n) most in_a in_b =
    let ih = none_shown_above a b n most (λ p lt. in_a p (omega (arith, lt))) (λ p lt. in_b p (omega (arith, lt))) in
    let x = in_a n (omega arith) in
    let y = in_b n (omega arith) in
    omega (arith, ih, x, y)

pub none_above : (own : Bool) (v : VaultState) (files : ℕ → FileState) → AreStamped own v files → NoneAbove v.stamp files
unfolding greatest_stamp
none_above own v files stamped image is = none_shown_above (λ p. image (2 * p)) (λ p. image (2 * p + 1)) 64 v.stamp (λ p lt. here p A lt) (λ p lt. here p B lt)
  where
    here : (p : ℕ) (side : Side) → p < 64 → stamp_of (shown_in (image (file_of p side))) ≤ v.stamp
    here p side lt =
        let s = stamped p side lt in
        shown_within s.state v.stamp (shown_in (image (file_of p side))) s.within (can_show s.state (files (file_of p side)) s.is (image (file_of p side)) (is (file_of p side)))

shown_numbered : (state : SideState) (shown : Option Frame) (frame : Frame) → IsNumberedSide state → CanShow state shown → shown ≡ Some frame → IsNumbered frame
shown_numbered (Shut put) shown frame numbered can is = absurd (let odd : None ≡ Some frame = sym can ∙ is in cc)
shown_numbered (Still None true) shown frame numbered can is = absurd (let odd : None ≡ Some frame = sym can ∙ is in cc)
shown_numbered (Still None false) shown frame numbered (inl can) is = absurd (let odd : None ≡ Some frame = sym can ∙ is in cc)
shown_numbered (Still None false) shown frame numbered (inr can) is = absurd (let odd : None ≡ Some frame = sym can ∙ is in cc)
shown_numbered (Still (Some f) true) shown frame numbered can is = let same : f ≡ frame = only (sym can ∙ is) in subst IsNumbered same numbered
  where
    only : Some f ≡ Some frame → f ≡ frame
    only e = cc
shown_numbered (Still (Some f) false) shown frame numbered (inl none) is = absurd (let odd : None ≡ Some frame = sym none ∙ is in cc)
shown_numbered (Still (Some f) false) shown frame numbered (inr can) is = let same : f ≡ frame = only (sym can ∙ is) in subst IsNumbered same numbered
  where
    only : Some f ≡ Some frame → f ≡ frame
    only e = cc

pub are_own : (v : VaultState) (files : ℕ → FileState) → AreStamped true v files → AreOwn files
are_own v files stamped image is p side frame lt shows =
    let s = stamped p side lt in
    shown_numbered s.state (shown_in (image (file_of p side))) frame (s.numbered refl) (can_show s.state (files (file_of p side)) s.is (image (file_of p side)) (is (file_of p side))) shows

-- ---- one side changes

same_or_other : (s t : Side) → (t ≡ s) ⊎ (t ≡ other_side s)
same_or_other A A = inl refl
same_or_other A B = inr refl
same_or_other B A = inr refl
same_or_other B B = inl refl

loosened_stamp : (s : SideState) → side_stamp (loosened s) ≡ side_stamp s
loosened_stamp (Shut put) = refl
loosened_stamp (Still None sure) = refl
loosened_stamp (Still (Some frame) sure) = refl

loosened_numbered : (s : SideState) → IsNumberedSide s → IsNumberedSide (loosened s)
loosened_numbered (Shut put) is = is
loosened_numbered (Still None sure) is = is
loosened_numbered (Still (Some frame) sure) is = is

put_marks : (pair : Pair) (put : Option ℕ) (side : Side) → is_shut (with_put pair put) side ≡ is_shut pair side
put_marks pair put A = refl
put_marks pair put B = refl

shut_marks : (pair : Pair) (side : Side) (shut : Bool) → is_shut (with_shut pair side shut) side ≡ shut
shut_marks pair A shut = refl
shut_marks pair B shut = refl

shut_other : (pair : Pair) (side : Side) (shut : Bool) → is_shut (with_shut pair side shut) (other_side side) ≡ is_shut pair (other_side side)
shut_other pair A shut = refl
shut_other pair B shut = refl

home_marks : (pair : Pair) (side : Side) → is_shut (rehomed pair side) side ≡ false
home_marks pair A = refl
home_marks pair B = refl

home_other : (pair : Pair) (side : Side) → is_shut (rehomed pair side) (other_side side) ≡ is_shut pair (other_side side)
home_other pair A = refl
home_other pair B = refl

use_marks : (pair : Pair) (used : PairUse) (side : Side) → is_shut (with_use pair used) side ≡ is_shut pair side
use_marks pair used A = refl
use_marks pair used B = refl

-- the same over files and marks that are as they were
still_stamped : (own : Bool) (v w : VaultState) (old new : ℕ → FileState) (most p : ℕ) (side : Side) → IsStamped own v v.stamp p side old → v.stamp ≤ most → is_shut (pair_at w p) side ≡ is_shut (pair_at v p) side → new (file_of p side) ≡ old (file_of p side) → IsStamped own w most p side new
still_stamped own v w old new most p side s rises mark same = record {
  state = s.state;
  is = subst (IsSide s.state) (sym same) s.is;
  known = s.known ∙ sym mark;
  within = let b = s.within in omega (arith, b, rises);
  numbered = s.numbered;
}

module _ {D : Type 0} (time : D → ℕ) (past : D → ℕ → ℕ → FileState) (now : D → ℕ → FileState) (present : (d : D) (f : ℕ) → past d (time d) f ≡ now d f) (own : Bool) where
  -- no file has changed
  pub rested_stamped : (v w : VaultState) (old new : D) → ChangesNothing time past now old new → w ≡ v → AreStamped own v (now old) → AreStamped own w (now new)
  rested_stamped v w old new still same stamped = subst (λ (k : VaultState). AreStamped own k (now new)) (sym same)
      (λ p side lt. still_stamped own v v (now old) (now new) v.stamp p side (stamped p side lt) (omega arith) refl (still.same (file_of p side)))

  module _ (v w : VaultState) (more p : ℕ) (pair : Pair) (side : Side) (old new : D) (count : length v.pairs ≡ 64) (below : p < 64) (stamped : AreStamped own v (now old)) (rises : v.stamp ≤ more) (is : w ≡ with_pair (record { pairs = v.pairs; stamp = more }) p pair) where
    there : pair_at w p ≡ pair
    there = ap (λ (k : VaultState). pair_at k p) is ∙ get_or-set_same v.pairs p pair no_pair (omega (arith, count, below))

    elsewhere : (q : ℕ) → q ≢ p → pair_at w q ≡ pair_at v q
    elsewhere q far = ap (λ (k : VaultState). pair_at k q) is ∙ get_or-set_other v.pairs p q pair no_pair far

    counter : w.stamp ≡ more
    counter = ap (λ (k : VaultState). k.stamp) is

    -- a run on one side, behind which this is known of it
    side_stamped : (Q : FileState → Type 0) → Through time past (file_of p side) Q old new → is_shut pair (other_side side) ≡ is_shut (pair_at v p) (other_side side)
        → (state : SideState) → IsSide state (now new (file_of p side)) → is_closed state ≡ is_shut pair side → side_stamp state ≤ more → (own ≡ true → IsNumberedSide state) → AreStamped own w (now new)
    side_stamped Q through other state is_state closed within numbered q t in_q = ⊎_elim
        (λ same. subst (λ n. IsStamped own w w.stamp n t (now new)) (sym same.1) (⊎_elim
        (λ here. subst (λ (s : Side). IsStamped own w w.stamp p s (now new)) (sym here) (record {
          state = state;
          is = is_state;
          known = closed ∙ sym (ap (λ (x : Pair). is_shut x side) there);
          within = omega (arith, within, counter);
          numbered = numbered;
        }))
        (λ there_too. subst (λ (s : Side). IsStamped own w w.stamp p s (now new)) (sym there_too)
        (still_stamped own v w (now old) (now new) w.stamp p (other_side side) (stamped p (other_side side) below) (omega (arith, rises, counter))
        (ap (λ (x : Pair). is_shut x (other_side side)) there ∙ other)
        (others (file_of p (other_side side)) (λ e. other_file p side (sym e)))))
        (same_or_other side t)))
        (λ far. still_stamped own v w (now old) (now new) w.stamp q t (stamped q t in_q) (omega (arith, rises, counter))
        (ap (λ (x : Pair). is_shut x t) (elsewhere q far.1)) (others (file_of q t) (other_pair q p t side far.1)))
        (eqb_tells q p)
      where
        others : (f : ℕ) → f ≢ file_of p side → now new f ≡ now old f
        others = others_now time past now present (file_of p side) Q old new through

  -- ---- the stages
  module _ (v w : VaultState) (p : ℕ) (side : Side) (old new : D) (count : length v.pairs ≡ 64) (below : p < 64) (stamped : AreStamped own v (now old)) where
    -- a side was to be closed
    pub closing_stamped : (more : ℕ) (put : Option ℕ) → v.stamp ≤ more → w ≡ with_pair (record { pairs = v.pairs; stamp = more }) p (with_put (pair_at v p) put)
        → WhereKnown (is_shut (pair_at v p) side) (now old (file_of p side)) (λ s. Through time past (file_of p side) (IsSide (loosened s)) old new) → AreStamped own w (now new)
    closing_stamped more put rises is each =
        let s = stamped p side below in
        let through = each s.state s.known s.is in
        side_stamped v w more p (with_put (pair_at v p) put) side old new count below stamped rises is (IsSide (loosened s.state)) through (put_marks (pair_at v p) put (other_side side))
        (loosened s.state) (through_now time past now present (file_of p side) (IsSide (loosened s.state)) old new through)
        (is_closed_loosened s.state ∙ s.known ∙ sym (put_marks (pair_at v p) put side))
        (let b = s.within in omega (arith, b, rises, loosened_stamp s.state)) (λ is_own. loosened_numbered s.state (s.numbered is_own))

    -- it was closed
    pub closed_stamped : (more : ℕ) (put : Option ℕ) → v.stamp ≤ more → w ≡ with_pair (record { pairs = v.pairs; stamp = more }) p (with_put (with_shut (pair_at v p) side true) put)
        → WhereKnown (is_shut (pair_at v p) side) (now old (file_of p side)) (λ s. Through time past (file_of p side) (IsSide (loosened s)) old new)
        → WhereKnown (is_shut (pair_at v p) side) (now old (file_of p side)) (λ s. IsSide (Shut []) (now new (file_of p side))) → AreStamped own w (now new)
    closed_stamped more put rises is each closed =
        let s = stamped p side below in
        side_stamped v w more p (with_put (with_shut (pair_at v p) side true) put) side old new count below stamped rises is (IsSide (loosened s.state)) (each s.state s.known s.is)
        (put_marks (with_shut (pair_at v p) side true) put (other_side side) ∙ shut_other (pair_at v p) side true)
        (Shut []) (closed s.state s.known s.is)
        (sym (put_marks (with_shut (pair_at v p) side true) put side ∙ shut_marks (pair_at v p) side true))
        (omega arith) (λ is_own. tt)

    -- bytes were put behind its closed gate, or were to be
    pub putting_stamped : (put : Option ℕ) (bytes : List ℕ) → w ≡ with_pair v p (with_put (pair_at v p) put) → true ≡ is_shut (pair_at v p) side
        → Through time past (file_of p side) (IsSide (Shut [])) old new → IsSide (Shut bytes) (now new (file_of p side)) → AreStamped own w (now new)
    putting_stamped put bytes is shut through behind =
        side_stamped v w v.stamp p (with_put (pair_at v p) put) side old new count below stamped (omega arith) is (IsSide (Shut [])) through (put_marks (pair_at v p) put (other_side side))
        (Shut bytes) behind (shut ∙ sym (put_marks (pair_at v p) put side)) (omega arith) (λ is_own. tt)

    -- its gate was to be opened
    pub opening_stamped : (frame : Frame) → w ≡ with_pair v p (with_shut (pair_at v p) side false) → frame.stamp ≤ v.stamp → (own ≡ true → IsNumbered frame) → Through time past (file_of p side) (IsSide (Still (Some frame) false)) old new → AreStamped own w (now new)
    opening_stamped frame is within numbered through =
        side_stamped v w v.stamp p (with_shut (pair_at v p) side false) side old new count below stamped (omega arith) is (IsSide (Still (Some frame) false)) through (shut_other (pair_at v p) side false)
        (Still (Some frame) false) (through_now time past now present (file_of p side) (IsSide (Still (Some frame) false)) old new through) (sym (shut_marks (pair_at v p) side false)) within numbered

    -- it was opened
    pub opened_stamped : (frame : Frame) → w ≡ with_pair v p (rehomed (pair_at v p) side) → frame.stamp ≤ v.stamp → (own ≡ true → IsNumbered frame) → Through time past (file_of p side) (IsSide (Still (Some frame) false)) old new
        → IsSide (Still (Some frame) true) (now new (file_of p side)) → AreStamped own w (now new)
    opened_stamped frame is within numbered through shows =
        side_stamped v w v.stamp p (rehomed (pair_at v p) side) side old new count below stamped (omega arith) is (IsSide (Still (Some frame) false)) through (home_other (pair_at v p) side)
        (Still (Some frame) true) shows (sym (home_marks (pair_at v p) side)) within numbered

-- a pair serves another use
pub used_stamped : (own : Bool) (v w : VaultState) (p : ℕ) (used : PairUse) (files : ℕ → FileState) → length v.pairs ≡ 64 → p < 64 → w ≡ with_pair v p (with_use (pair_at v p) used) → AreStamped own v files → AreStamped own w files
used_stamped own v w p used files count below is stamped q t in_q =
    still_stamped own v w files files w.stamp q t (stamped q t in_q) (let c = ap (λ (k : VaultState). k.stamp) is in omega (arith, c)) (⊎_elim
    (λ same. ap (λ n. is_shut (pair_at w n) t) same.1
    ∙ ap (λ (k : VaultState). is_shut (pair_at k p) t) is
    ∙ ap (λ (x : Pair). is_shut x t) (get_or-set_same v.pairs p (with_use (pair_at v p) used) no_pair (omega (arith, count, below)))
    ∙ use_marks (pair_at v p) used t
    ∙ ap (λ n. is_shut (pair_at v n) t) (sym same.1))
    (λ far. ap (λ (k : VaultState). is_shut (pair_at k q) t) is ∙ ap (λ (x : Pair). is_shut x t) (get_or-set_other v.pairs p q (with_use (pair_at v p) used) no_pair far.1))
    (eqb_tells q p)) refl

-- An entry's frame is one where its number is at most its stamp.
pub frame_numbered : (frame : Frame) (e : HistoryEntry) → e.number < 2 ^ 64 → e.number ≤ frame.stamp → Reads frame (backup_of_entry e) → IsNumbered frame
frame_numbered frame e small within reads f small_f reads_f =
    let same : backup_of_entry e ≡ backup_of_entry f = ap backup_in (sym reads ∙ reads_f) in
    let number = same_number e.number f.number small small_f (ap (λ (b : Backup). b.resource) same) in
    omega (arith, number, within)
  where
    backup_in : Result Backup RecordError → Backup
    backup_in (Ok b) = b
    backup_in (Err error) = backup_of_entry e

-- ---- since the opening

-- The vault is stamped, and where its files were own at that moment they are so now.
pub record IsStampedSince {D : Type 0} (time : D → ℕ) (past : D → ℕ → ℕ → FileState) (now : D → ℕ → FileState) (opened : ℕ) (v : VaultState) (disk : D) : Type 0 where
  pub since : opened ≤ time disk
  pub stamped : (own : Bool) → (own ≡ true → AreOwn (past disk opened)) → AreStamped own v (now disk)

module _ {D : Type 0} (time : D → ℕ) (past : D → ℕ → ℕ → FileState) (now : D → ℕ → FileState) (opened : ℕ) where
  pub since_then : (P : (ℕ → FileState) → Type 0) (v w : VaultState) (old new : D) → IsStampedSince time past now opened v old → Moments time past P old new → ((own : Bool) → AreStamped own v (now old) → AreStamped own w (now new)) → IsStampedSince time past now opened w new
  since_then P v w old new before moments stamps = record {
    since = let s = before.since in let l = moments.later in omega (arith, s, l);
    stamped = λ own premise. stamps own (before.stamped own (λ is_own. subst AreOwn (fun_ext (λ f. moments.kept opened f before.since)) (premise is_own)));
  }

  pub since_none_above : (v : VaultState) (disk : D) → IsStampedSince time past now opened v disk → NoneAbove v.stamp (now disk)
  since_none_above v disk before = none_above false v (now disk) (before.stamped false (λ odd. absurd cc))

  pub since_own : (v : VaultState) (disk : D) → IsStampedSince time past now opened v disk → AreOwn (past disk opened) → AreOwn (now disk)
  since_own v disk before own = are_own v (now disk) (before.stamped true (λ h. own))

-- no stamp above one is none above a greater
pub above_less : (less more : ℕ) (files : ℕ → FileState) → less ≤ more → NoneAbove less files → NoneAbove more files
above_less less more files le none image is = let n = none image is in omega (arith, n, le)

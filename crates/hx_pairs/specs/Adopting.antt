-- What the barrier, the scan, the restore and the adoption promise is a vault that was just opened.
use Rattle.std.specs.Prelude.{◌≡◌, ◌<◌, ◌≤◌, ℕ, suc, ◌+◌, ◌*◌, true, List, [], ◌∷◌, length, take, Some, None, refl}
use Rattle.std.proofs.Common.{sym, ◌∙◌, ap, subst, ⊎_elim, arith}
use Rattle.std.proofs.lemmas.List.{get_or-map, length-map}
use Rattle.std.proofs.lemmas.Slice.Eq.{bytes_eq-Decides}
use Rattle.hx_disk.specs.File.{FileState, IsAtRest}
use Rattle.hx_events.specs.declared.backup.Backup.{Backup}
use Rattle.hx_events.specs.declared.backup.PairFound.{PairFound}
use Rattle.hx_events.specs.declared.backup.PairFound.TheVariants.{Empty, Found, Damaged, Twin}
use Rattle.hx_events.specs.declared.backup.Side.{Side}
use Rattle.hx_events.specs.declared.backup.Side.TheVariants.{A, B}
use Rattle.hx_restore.specs.declared.value.PairValue.{PairValue}
use Rattle.hx_restore.specs.Values.{holds_for, found_by, earlier_of, found_from, pair_value, restored}
use Rattle.hx_slots.specs.Files.{file_of}
use Rattle.hx_slots.specs.Frames.{Frame, shown_in}
use Rattle.hx_slots.specs.Raws.{raw_at, AreReadOf, stamp_of, greatest_stamp}
use Rattle.hx_slots.specs.declared.pair.RawPair.{RawPair}
use Rattle.hx_vault.specs.Scans.{greatest_read, no_greater_stamp}
use Rattle.hx_vault.specs.declared.pair.Pair.{Pair}
use Rattle.hx_vault.specs.Vaults.{VaultState, pair_at, no_pair, is_shut, reads_shut, scanned_pair, scanned, adopted}
use Rattle.hx_lives.specs.Course.{Start}
use Rattle.hx_lives.specs.CrashSafe.{found_at}
use Rattle.hx_lives.specs.Holds.{readings}
use Rattle.hx_pairs.specs.Opened.{read_value, base_at, IsAdopted, IsTwinOf, IsOpenedVault}
use Rattle.hx_pairs.specs.Words.{at_place, was_twin, first_found, IsEarlier}

-- adoption leaves what is known of the gates, and forgets what was put
adopted_shut : (f : PairFound) (pair : Pair) (s : Side) → is_shut (adopted f pair) s ≡ is_shut pair s
adopted_shut Empty pair A = refl
adopted_shut Empty pair B = refl
adopted_shut (Found backup side) pair A = refl
adopted_shut (Found backup side) pair B = refl
adopted_shut Damaged pair A = refl
adopted_shut Damaged pair B = refl
adopted_shut (Twin q) pair A = refl
adopted_shut (Twin q) pair B = refl

adopted_put : (f : PairFound) (pair : Pair) → (adopted f pair).put ≡ None
adopted_put Empty pair = refl
adopted_put (Found backup side) pair = refl
adopted_put Damaged pair = refl
adopted_put (Twin q) pair = refl

pub adopted_by : (f : PairFound) (pair : Pair) → IsAdopted f (adopted f pair)
adopted_by Empty pair = refl
adopted_by (Found backup side) pair = (refl, refl)
adopted_by Damaged pair = refl
adopted_by (Twin q) pair = refl

-- the first byte is among the first bytes
cut_shut : (m : ℕ) (bytes : List ℕ) → reads_shut (take (suc m) bytes) ≡ reads_shut bytes
cut_shut m [] = refl
cut_shut m (gate ∷ rest) = refl

cut_read : (bytes : List ℕ) → reads_shut (take 534305 bytes) ≡ reads_shut bytes
cut_read bytes = cut_shut 534304 bytes

scanned_at : (raws : List RawPair) (p : ℕ) → p < length raws → pair_at (scanned raws) p ≡ scanned_pair (raw_at raws p)
scanned_at raws p below = get_or-map scanned_pair raws p (record { a = []; b = [] }) no_pair below

read_shut : (files : ℕ → FileState) (raws : List RawPair) (p : ℕ) (s : Side) → AreReadOf (readings files) raws → p < 64 → is_shut (pair_at (scanned raws) p) s ≡ reads_shut (files (file_of p s)).reading
read_shut files raws p A read below = ap (λ (x : Pair). is_shut x A) (scanned_at raws p (omega (arith, below, read.count))) ∙ ap reads_shut (read.read_a p below) ∙ cut_read (files (2 * p)).reading
read_shut files raws p B read below = ap (λ (x : Pair). is_shut x B) (scanned_at raws p (omega (arith, below, read.count))) ∙ ap reads_shut (read.read_b p below) ∙ cut_read (files (2 * p + 1)).reading

stamp_within : (image : ℕ → List ℕ) (p : ℕ) (s : Side) (frame : Frame) → p < 64 → shown_in (image (file_of p s)) ≡ Some frame → frame.stamp ≤ greatest_stamp image
stamp_within image p A frame below shows = let most = (no_greater_stamp image p below).0 in let is : stamp_of (shown_in (image (2 * p))) ≡ frame.stamp = ap stamp_of shows in omega (arith, most, is)
stamp_within image p B frame below shows = let most = (no_greater_stamp image p below).1 in let is : stamp_of (shown_in (image (2 * p + 1))) ≡ frame.stamp = ap stamp_of shows in omega (arith, most, is)

rest_at : (files : ℕ → FileState) → ((f : ℕ) → f < 128 → IsAtRest (files f)) → (p : ℕ) (s : Side) → p < 64 → IsAtRest (files (file_of p s))
rest_at files rest p A below = rest (2 * p) (omega (arith, below))
rest_at files rest p B below = rest (2 * p + 1) (omega (arith, below))

-- what is found in the first n pairs
found_in : (values : ℕ → PairValue) (n p : ℕ) → p < n → found_at (found_from values 0 n) p ≡ found_by (values p) (earlier_of values p (values p))
found_in values n p below = ⊎_elim (λ none. absurd (omega (arith, none.0, below))) (λ at. at.1) (at_place values n p)

pub record FindsEarlier (values : ℕ → PairValue) (n p q : ℕ) : Type 0 where
  pub backup : Backup
  pub side : Side
  pub within : q < n
  pub found : found_at (found_from values 0 n) q ≡ Found backup side
  pub same : holds_for backup.resource (values p) ≡ true

twin_in : (values : ℕ → PairValue) (n p q : ℕ) → p < n → found_at (found_from values 0 n) p ≡ Twin q → FindsEarlier values n p q
twin_in values n p q below twin = by_earlier (was_twin values p q (values p) refl (sym (found_in values n p below) ∙ twin))
  where
    by_earlier : IsEarlier values p q → FindsEarlier values n p q
    by_earlier w =
        let l = w.lowest in
        let first = first_found values w.backup.resource q (values q) l.passes (λ r lt. l.first r (omega arith) lt) in
        let within : q < n = omega (arith, below, l.below) in
        record {
          backup = first.0;
          side = first.1;
          within = within;
          found = found_in values n q within ∙ first.2;
          same = subst (λ (r : List ℕ). holds_for r (values p) ≡ true) (sym first.3) (ap (holds_for w.backup.resource) w.mine ∙ (bytes_eq-Decides w.backup.resource w.backup.resource).1 refl);
        }

restored_values : (files : ℕ → FileState) → restored (readings files) ≡ found_from (read_value files) 0 64
unfolding restored pair_value
restored_values files = refl

base_in : (b : Start) (files : ℕ → FileState) (n p : ℕ) → p < n → b.base ≡ found_from (read_value files) 0 n → base_at b p ≡ found_by (read_value files p) (earlier_of (read_value files) p (read_value files p))
base_in b files n p below is = ap (λ (l : List PairFound). found_at l p) is ∙ found_in (read_value files) n p below

twins_in : (b : Start) (files : ℕ → FileState) (n p q : ℕ) → n ≤ 64 → p < n → b.base ≡ found_from (read_value files) 0 n → base_at b p ≡ Twin q → IsTwinOf b files p q
twins_in b files n p q most below is twin =
    let e = twin_in (read_value files) n p q below (sym (ap (λ (l : List PairFound). found_at l p) is) ∙ twin) in
    let far : q < 64 = omega (arith, e.within, most) in
    record { backup = e.backup; side = e.side; within = far; found = ap (λ (l : List PairFound). found_at l q) is ∙ e.found; same = e.same }

-- What the calls that open a vault promise, one behind the other: at rest after the barrier, read by the scan, restored from
-- what was read, and adopted.
abbrev pub OpeningGivesVault : Type 0
OpeningGivesVault = (b : Start) (v read_vault : VaultState) (raws : List RawPair) (files : ℕ → FileState)
    → ((f : ℕ) → f < 128 → IsAtRest (files f)) → AreReadOf (readings files) raws → read_vault ≡ scanned raws → b.base ≡ restored (readings files)
    → length v.pairs ≡ length read_vault.pairs → ((p : ℕ) → p < 64 → pair_at v p ≡ adopted (base_at b p) (pair_at read_vault p)) → v.stamp ≡ read_vault.stamp
    → IsOpenedVault b v files

pub opening_gives_vault : OpeningGivesVault
opening_gives_vault b v read_vault raws files rest read known base count each stamp = record {
  rest = rest_at files rest;
  shut = λ p s below. ap (λ (x : Pair). is_shut x s) (each p below) ∙ adopted_shut (base_at b p) (pair_at read_vault p) s ∙ ap (λ (w : VaultState). is_shut (pair_at w p) s) known ∙ read_shut files raws p s read below;
  put = λ p below. ap (λ (x : Pair). x.put) (each p below) ∙ adopted_put (base_at b p) (pair_at read_vault p);
  stamps = λ p s frame below shows.
      let counted : v.stamp ≡ greatest_stamp (readings files) = stamp ∙ ap (λ (w : VaultState). w.stamp) known ∙ greatest_read (readings files) raws read in
      let most = stamp_within (readings files) p s frame below shows in
      omega (arith, counted, most);
  pairs = count ∙ ap (λ (w : VaultState). length w.pairs) known ∙ length-map raws scanned_pair ∙ read.count;
  base = λ p below. base_in b files 64 p below (base ∙ restored_values files);
  twins = λ p q below twin. twins_in b files 64 p q (omega arith) below (base ∙ restored_values files) twin;
  adopted = λ p below. subst (IsAdopted (base_at b p)) (sym (each p below)) (adopted_by (base_at b p) (pair_at read_vault p));
}

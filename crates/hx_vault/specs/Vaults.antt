-- What a vault knows of its pairs.
use Rattle.std.specs.Prelude.{ℕ, ◌+◌, ◌==◌, if◌then◌else◌, Bool, true, false, List, [], ◌∷◌, length, map, Option, Some, None, slice_index_or}
use Rattle.hx_events.specs.declared.backup.PairFound.{PairFound}
use Rattle.hx_events.specs.declared.backup.PairFound.TheVariants.{Empty, Found, Damaged, Twin}
use Rattle.hx_slots.specs.Raws.{raw_at, greatest_shown}
use Rattle.hx_slots.specs.declared.pair.RawPair.{RawPair}
use Rattle.std.proofs.Common.{set}
use Rattle.hx_events.specs.declared.backup.Side.{Side}
use Rattle.hx_events.specs.declared.backup.Side.TheVariants.{A, B}
use Rattle.hx_slots.specs.Files.{file_of}
use Rattle.hx_vault.specs.declared.pair.Pair.{Pair}
use Rattle.hx_vault.specs.declared.pair.PairUse.{PairUse}
use Rattle.hx_vault.specs.declared.pair.PairUse.TheVariants.{Free, Taken, Barred}

-- What is known of the 64 pairs, and the greatest stamp that was given out or found.
pub record VaultState : Type 0 where
  pub pairs : List Pair
  pub stamp : ℕ

abbrev pub pair_of : PairUse → Side → Bool → Bool → Option ℕ → Pair
pair_of used home shut_a shut_b put = record { used = used; home = home; shut_a = shut_a; shut_b = shut_b; put = put }

-- what is known of a pair that isn't there
abbrev pub no_pair : Pair
no_pair = pair_of Free A false false None

abbrev pub pair_at : VaultState → ℕ → Pair
pair_at v p = slice_index_or v.pairs p no_pair

abbrev pub with_pair : VaultState → ℕ → Pair → VaultState
with_pair v p pair = record { pairs = set v.pairs p pair; stamp = v.stamp }

abbrev pub raised : VaultState → VaultState
raised v = record { pairs = v.pairs; stamp = v.stamp + 1 }

abbrev pub other_side : Side → Side
other_side A = B
other_side B = A

abbrev pub away_of : Pair → Side
away_of pair = other_side pair.home

abbrev pub is_shut : Pair → Side → Bool
is_shut pair A = pair.shut_a
is_shut pair B = pair.shut_b

-- the first for side A, the second for side B
abbrev pub by_side : Side → Bool → Bool → Bool
by_side A a b = a
by_side B a b = b

-- The side is known closed, or isn't; what was put behind the gate doesn't count any more.
abbrev pub with_shut : Pair → Side → Bool → Pair
with_shut pair side shut = pair_of pair.used pair.home (by_side side shut pair.shut_a) (by_side side pair.shut_b shut) None

-- the body on the side that isn't home has so many bytes behind its gate
abbrev pub with_put : Pair → Option ℕ → Pair
with_put pair put = pair_of pair.used pair.home pair.shut_a pair.shut_b put

-- the side that was written is home, and isn't closed
abbrev pub rehomed : Pair → Side → Pair
rehomed pair side = pair_of pair.used side (with_shut pair side false).shut_a (with_shut pair side false).shut_b None

-- the file of the side that isn't home
abbrev pub away_file : VaultState → ℕ → ℕ
away_file v p = file_of p (away_of (pair_at v p))

abbrev pub home_file : VaultState → ℕ → ℕ
home_file v p = file_of p (pair_at v p).home

-- how many bytes were put behind the gate of the other side
abbrev pub put_length : Option ℕ → ℕ
put_length None = 0
put_length (Some n) = n

abbrev pub place_of : Pair → ℕ
place_of pair = put_length pair.put

-- the gate is known closed by what was read: there is a byte at place 0, and it isn't 1
abbrev pub reads_shut : List ℕ → Bool
reads_shut [] = false
reads_shut (gate ∷ rest) = if gate == 1 then false else true

-- a pair of which this was read, and no more is known yet
abbrev pub scanned_pair : RawPair → Pair
scanned_pair raw = pair_of Free A (reads_shut raw.a) (reads_shut raw.b) None

-- What is known of a vault by reading it: of each pair which gates are closed, and as the counter the greatest stamp that
-- is shown, of a body that doesn't read as a backup too.
abbrev pub scanned : List RawPair → VaultState
scanned raws = record { pairs = map scanned_pair raws; stamp = greatest_shown (λ p. (raw_at raws p).a) (λ p. (raw_at raws p).b) (length raws) }

-- what an adopted pair is by what was found in it
abbrev pub adopted : PairFound → Pair → Pair
adopted Empty pair = pair_of Free A pair.shut_a pair.shut_b None
adopted (Found backup side) pair = pair_of Taken side pair.shut_a pair.shut_b None
adopted Damaged pair = pair_of Barred A pair.shut_a pair.shut_b None
adopted (Twin q) pair = pair_of Barred A pair.shut_a pair.shut_b None

abbrev pub with_use : Pair → PairUse → Pair
with_use pair used = pair_of used pair.home pair.shut_a pair.shut_b pair.put

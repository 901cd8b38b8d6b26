-- The script that is generated from a number. It is this project's own.
use Rattle.std.specs.Prelude.{ℕ, zero, suc, ◌+◌, ◌*◌, ◌/◌, ◌%◌, ◌==◌, nat_lt, List, [], ◌∷◌, ◌++◌, codes, decimal, if◌then◌else◌, false}
use Rattle.hx_events.specs.declared.event.Actor.TheVariants.{Window, Writer, Saver}
use Rattle.hx_events.specs.declared.event.Command.TheVariants.{Create, Edit, Save}
use Rattle.hx_events.specs.declared.event.Event.TheVariants.{Act, Vault, Flush}
use Rattle.hx_script.specs.declared.script.Script.{Script}
use Rattle.hx_script.specs.declared.script.Step.{Step}
use Rattle.hx_script.specs.declared.script.Step.TheVariants.{Do, Restart}

-- `mem:/0`, `mem:/1` and so on
abbrev pub made_name : ℕ → List ℕ
made_name k = codes "mem:/" ++ (48 + k) ∷ []

-- the first names, and a step of each window that creates its own
abbrev pub made_names : ℕ → List (List ℕ)
made_names zero = []
made_names (suc k) = made_names k ++ made_name k ∷ []

abbrev pub creates : ℕ → List Step
creates zero = []
creates (suc k) = creates k ++ Do (Window k) (Act (Create k)) ∷ []

-- the sequence of numbers that chooses the turns, from its first on
abbrev pub next_number : ℕ → ℕ
next_number x = (75 * x + 74) % 65537

abbrev pub number_after : ℕ → ℕ → ℕ
number_after n zero = n
number_after n (suc i) = next_number (number_after n i)

-- Turn i of this kind, on resource k: an edit that puts the number of the turn in front, a vault stage, a save, a save stage.
abbrev pub turn_of_kind : (kind i k : ℕ) → Step
turn_of_kind kind i k =
    if nat_lt kind 3 then Do (Window k) (Act (Edit k 0 0 (decimal i)))
    else if nat_lt kind 5 then Do (Writer 0) (Vault k)
    else if kind == 5 then Do (Window k) (Act (Save k false false))
    else Do (Saver 0) (Flush k)

-- the turn with this number, which x chooses
abbrev pub turn : (i x : ℕ) → Step
turn i x = turn_of_kind ((x / 8) % 8) i (x % 8)

-- the first turns, numbered from 1
abbrev pub turns : (n count : ℕ) → List Step
turns n zero = []
turns n (suc i) = turns n i ++ turn (suc i) (number_after n (suc i)) ∷ []

-- eight resources are created, eight times n turns are taken, and the life is restarted
unfoldable pub made_script : ℕ → Script
made_script n = record { names = made_names 8; slots = []; steps = (creates 8 ++ turns n (8 * n)) ++ Restart ∷ [] }

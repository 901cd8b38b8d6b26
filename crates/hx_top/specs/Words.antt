-- Which words are a command line, and what they ask for. They are this project's own.
use Rattle.std.specs.Prelude.{◌≡◌, ◌≤◌, ℕ, nat_le, nat_lt, Bool, true, false, ◌&&◌, ◌||◌, List, [], ◌∷◌, length, drop, count_by, bytes_eq, codes, string_bytes, String, if◌then◌else◌, Option, Some, None, is_some}
use Rattle.std.specs.declared.alloc.Global.{Global}
use Rattle.hx_base.specs.Decimals.{decimal_value}
use Rattle.hx_top.specs.declared.words.Setting.{Setting}
use Rattle.hx_top.specs.declared.words.Setting.TheVariants.{Fail, Fuse}
use Rattle.hx_top.specs.declared.words.Task.{Task}
use Rattle.hx_top.specs.declared.words.Task.TheVariants.{Replay, Restore, Made, Exit}
use Rattle.hx_top.specs.declared.words.DiskChoice.{DiskChoice}
use Rattle.hx_top.specs.declared.words.DiskChoice.TheVariants.{Memory, Store}
use Rattle.hx_top.specs.declared.words.Order.{Order}
use Rattle.hx_top.specs.declared.words.Order.TheVariants.{Check, History, Play}
use Rattle.hx_top.specs.declared.words.RunOrder.{RunOrder}
use Rattle.hx_top.specs.declared.exits.ExitOrder.{ExitOrder}
use Rattle.hx_top.specs.Exits.{exit_of}

-- the bytes of each word
abbrev pub texts_of : List (String Global) → List (List ℕ)
texts_of [] = []
texts_of (word ∷ words) = string_bytes word ∷ texts_of words

-- `--fail` with a number from 1 on: this device call fails. `--fuse` with a number: each call behind that one fails.
abbrev pub setting_of : List ℕ → ℕ → Option Setting
setting_of word n =
    if bytes_eq word (codes "--fail") && nat_lt 0 n then Some (Fail n)
    else if bytes_eq word (codes "--fuse") then Some (Fuse n)
    else None

abbrev pub with_number : List ℕ → Option ℕ → Option Setting
with_number word None = None
with_number word (Some n) = setting_of word n

-- a word of the disk with its number
abbrev pub setting_in : List ℕ → List ℕ → Option Setting
setting_in word number = with_number word (decimal_value number)

-- the setting that the first two words are
abbrev pub first_setting : List (List ℕ) → Option Setting
first_setting (word ∷ number ∷ words) = setting_in word number
first_setting words = None

abbrev pub settings_if : Option Setting → List Setting → List Setting
settings_if None settings = []
settings_if (Some s) settings = s ∷ settings

abbrev pub command_if : Option Setting → (all behind : List (List ℕ)) → List (List ℕ)
command_if None all behind = all
command_if (Some s) all behind = behind

-- the settings in front, in their order
abbrev pub settings_before : List (List ℕ) → List Setting
settings_before (word ∷ number ∷ words) = settings_if (setting_in word number) (settings_before words)
settings_before words = []

-- the words behind them
abbrev pub command_in : List (List ℕ) → List (List ℕ)
command_in (word ∷ number ∷ words) = command_if (setting_in word number) (word ∷ number ∷ words) (command_in words)
command_in words = words

-- the folder that the first two words name: any text but the empty one behind `--store`
abbrev pub store_in : List (List ℕ) → Option (List ℕ)
store_in (word ∷ folder ∷ words) = if bytes_eq word (codes "--store") && nat_lt 0 (length folder) then Some folder else None
store_in words = None

abbrev pub is_fail : Setting → Bool
is_fail (Fail n) = true
is_fail (Fuse n) = false

abbrev pub is_fuse : Setting → Bool
is_fuse (Fail n) = false
is_fuse (Fuse n) = true

-- at most 64 failing calls are named, and one fuse
abbrev pub are_few : List Setting → Bool
are_few settings = nat_le (count_by is_fail settings) 64 && nat_le (count_by is_fuse settings) 1

-- The words in front name a disk: a folder, or one in memory, whose settings aren't too many.
abbrev pub has_disk : List (List ℕ) → Bool
has_disk words = is_some (store_in words) || are_few (settings_before words)

-- the words behind those of the disk: nothing but the command stands behind a folder
abbrev pub behind_disk : List (List ℕ) → List (List ℕ)
behind_disk words = if is_some (store_in words) then drop 2 words else command_in words

-- a number from 1 to 1,000
abbrev pub made_order : Option ℕ → Option Order
made_order None = None
made_order (Some n) = if nat_lt 0 n && nat_le n 1000 then Some (Play (Made n)) else None

abbrev pub plain_order : List ℕ → Option Order
plain_order word =
    if bytes_eq word (codes "replay") then Some (Play (Replay false))
    else if bytes_eq word (codes "restore") then Some (Play Restore)
    else if bytes_eq word (codes "check") then Some Check
    else if bytes_eq word (codes "history") then Some History
    else None

-- `made` with a number, and `replay` in guarded lives
abbrev pub second_order : List ℕ → List ℕ → Option Order
second_order word second =
    if bytes_eq word (codes "made") then made_order (decimal_value second)
    else if bytes_eq word (codes "replay") && bytes_eq second (codes "--guarded") then Some (Play (Replay true))
    else None

abbrev pub exit_order : Option ExitOrder → Option Order
exit_order None = None
exit_order (Some order) = Some (Play (Exit order))

-- `replay`, `restore`, `check`, `history`, `made` with a number, `replay --guarded`, and `exit` with its words; nothing follows
abbrev pub order_of : List (List ℕ) → Option Order
order_of [] = None
order_of (word ∷ []) = plain_order word
order_of (word ∷ second ∷ []) = second_order word second
order_of (word ∷ setting ∷ ending ∷ flags) = exit_order (exit_of word setting ending flags)

-- a generated script has a number from 1 to 1,000
abbrev pub IsTask : Task → Type 0
IsTask (Made n) = (1 ≤ n) × (n ≤ 1000)
IsTask task = Unit {0}

abbrev pub IsOrder : Order → Type 0
IsOrder (Play task) = IsTask task
IsOrder order = Unit {0}

-- a run has 1 to 4 writers and as many savers
abbrev pub IsWorkers : ℕ → Type 0
IsWorkers n = (1 ≤ n) × (n ≤ 4)

-- what the words ask for, if they are a command line but a run's
unfoldable pub order_in : List (List ℕ) → Option Order
order_in words = if has_disk words then order_of (behind_disk words) else None

-- a number of workers, from 1 to 4
abbrev pub workers_of : Option ℕ → Option ℕ
workers_of None = None
workers_of (Some n) = if nat_lt 0 n && nat_le n 4 then Some n else None

-- a run with so many writers and as many savers, of a guarded life or of a plain one
abbrev pub run_with : Bool → Option ℕ → Option RunOrder
run_with guarded None = None
run_with guarded (Some n) = Some record { workers = n; guarded = guarded }

-- is it the word `run`, and the word that asks for guarded lives?
abbrev pub is_run_word : List ℕ → Bool
is_run_word word = bytes_eq word (codes "run")

abbrev pub is_guarded_word : List ℕ → Bool
is_guarded_word word = bytes_eq word (codes "--guarded")

-- the words `--workers` and a number
abbrev pub workers_in : List ℕ → List ℕ → Option ℕ
workers_in flag number = if bytes_eq flag (codes "--workers") then workers_of (decimal_value number) else None

-- Behind `run`: two writers and two savers, or with `--workers` as many of each as its number says. Nothing follows.
abbrev pub workers_behind : Bool → List (List ℕ) → Option RunOrder
workers_behind guarded [] = run_with guarded (Some 2)
workers_behind guarded (flag ∷ number ∷ []) = run_with guarded (workers_in flag number)
workers_behind guarded words = None

-- before that `--guarded` asks for a guarded life
abbrev pub run_behind : List (List ℕ) → Option RunOrder
run_behind [] = workers_behind false []
run_behind (first ∷ words) = if is_guarded_word first then workers_behind true words else workers_behind false (first ∷ words)

abbrev pub run_of : List (List ℕ) → Option RunOrder
run_of [] = None
run_of (word ∷ words) = if is_run_word word then run_behind words else None

-- the run that the words ask for, if they are a run's command line
unfoldable pub run_in : List (List ℕ) → Option RunOrder
run_in words = if has_disk words then run_of (behind_disk words) else None

-- the numbers of the calls that fail, in their order
abbrev pub fails_of : List Setting → List ℕ
fails_of [] = []
fails_of (Fail n ∷ settings) = n ∷ fails_of settings
fails_of (Fuse n ∷ settings) = fails_of settings

-- the later of two, where there is one
abbrev pub later_of : Option ℕ → Option ℕ → Option ℕ
later_of first None = first
later_of first (Some n) = Some n

-- the last call that doesn't fail, if one is named
abbrev pub fuse_of : List Setting → Option ℕ
fuse_of [] = None
fuse_of (Fail n ∷ settings) = fuse_of settings
fuse_of (Fuse n ∷ settings) = later_of (Some n) (fuse_of settings)

-- The settings that count: none where the words are no command line.
abbrev pub settings_in : List (List ℕ) → List Setting
settings_in words = if is_some (order_in words) || is_some (run_in words) then settings_before words else []

-- The folder that counts: none where the words are no command line.
abbrev pub stored_in : List (List ℕ) → Option (List ℕ)
stored_in words = if is_some (order_in words) || is_some (run_in words) then store_in words else None

-- the disk that the words name
abbrev pub IsChosen : List (List ℕ) → DiskChoice → Type 0
IsChosen words (Memory plan) = (stored_in words ≡ None) × (plan.fails.items ≡ fails_of (settings_in words)) × (plan.fuse ≡ fuse_of (settings_in words))
IsChosen words (Store folder) = stored_in words ≡ Some (string_bytes folder)

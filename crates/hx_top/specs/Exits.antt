-- The words of `exit`, and what they ask of the end of a script. They are this project's own; the settings are those of VS Code's
-- `files.hotExit`.
use Rattle.std.specs.Prelude.{ℕ, Bool, false, List, [], ◌∷◌, codes, bytes_eq, drop, if◌then◌else◌, Option, Some, None}
use Rattle.hx_exit.specs.declared.exit.Ending.{Ending}
use Rattle.hx_exit.specs.declared.exit.Ending.TheVariants.{Quit, CloseWindow}
use Rattle.hx_exit.specs.declared.exit.Setting.{Setting as HotExit}
use Rattle.hx_exit.specs.declared.exit.Setting.TheVariants.{Off, OnExit, OnExitAndWindowClose}
use Rattle.hx_exit.specs.declared.exit.Situation.{Situation}
use Rattle.hx_top.specs.declared.exits.ExitOrder.{ExitOrder}
use Rattle.hx_top.specs.declared.exits.Flag.{Flag}
use Rattle.hx_top.specs.declared.exits.Flag.TheVariants.{Last, Folder, Mac}

-- is it the word `exit`?
abbrev pub is_exit_word : List ℕ → Bool
is_exit_word word = bytes_eq word (codes "exit")

-- the value of `files.hotExit`
abbrev pub hot_exit_of : List ℕ → Option HotExit
hot_exit_of word =
    if bytes_eq word (codes "off") then Some Off
    else if bytes_eq word (codes "onExit") then Some OnExit
    else if bytes_eq word (codes "onExitAndWindowClose") then Some OnExitAndWindowClose
    else None

-- what ends: the program, or one window
abbrev pub ending_of : List ℕ → Option Ending
ending_of word =
    if bytes_eq word (codes "quit") then Some Quit
    else if bytes_eq word (codes "close") then Some CloseWindow
    else None

-- the word of a flag: the window is the last one, it has a folder, or the program runs on a Mac
abbrev pub is_flag : Flag → List ℕ → Bool
is_flag Last word = bytes_eq word (codes "last")
is_flag Folder word = bytes_eq word (codes "folder")
is_flag Mac word = bytes_eq word (codes "mac")

-- Does the flag stand in front, and what is left behind it?
abbrev pub has_flag : Flag → List (List ℕ) → Bool
has_flag flag [] = false
has_flag flag (word ∷ words) = is_flag flag word

abbrev pub behind_flag : Flag → List (List ℕ) → List (List ℕ)
behind_flag flag words = if has_flag flag words then drop 1 words else words

abbrev pub if_none_left : List (List ℕ) → Situation → Option Situation
if_none_left [] situation = Some situation
if_none_left (word ∷ words) situation = None

-- the flags that stand there, each at most once and in this order; nothing follows
abbrev pub situation_of : List (List ℕ) → Option Situation
situation_of words =
    if_none_left (behind_flag Mac (behind_flag Folder (behind_flag Last words))) record {
      last = has_flag Last words;
      folder = has_flag Folder (behind_flag Last words);
      mac = has_flag Mac (behind_flag Folder (behind_flag Last words));
    }

abbrev pub exit_with : Option HotExit → Option Ending → Option Situation → Option ExitOrder
exit_with (Some setting) (Some ending) (Some situation) = Some record { setting = setting; ending = ending; situation = situation }
exit_with setting ending situation = None

-- `exit`, the value of the setting, what ends, and the flags
abbrev pub exit_of : (word setting ending : List ℕ) (flags : List (List ℕ)) → Option ExitOrder
exit_of word setting ending flags = if is_exit_word word then exit_with (hot_exit_of setting) (ending_of ending) (situation_of flags) else None

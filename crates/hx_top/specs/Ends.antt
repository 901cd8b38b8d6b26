-- How the ends of a run are told outside. It is this project's own.
use Rattle.std.specs.Prelude.{ℕ, List, [], ◌++◌, codes, decimal}
use Rattle.hx_script.specs.declared.why.Why.{Why}
use Rattle.hx_script.specs.declared.why.Why.TheVariants.{TooLong, NoEnd, Header, Form, Place, TooMany, Number, Escape, Resource, Declared}
use Rattle.hx_top.specs.declared.whole.End.{End}
use Rattle.hx_top.specs.declared.whole.End.TheVariants.{Done, Usage, BadScript, ReadFault, WriteFault, NoMemory, OpenFault, NotHistory}

-- the exit status
abbrev pub status_of : End → ℕ
status_of Done = 0
status_of Usage = 2
status_of (BadScript line why) = 3
status_of ReadFault = 4
status_of WriteFault = 5
status_of NoMemory = 6
status_of OpenFault = 7
status_of NotHistory = 8

-- the name of a reason, in lower case
abbrev pub why_name : Why → List ℕ
why_name TooLong = codes "toolong"
why_name NoEnd = codes "noend"
why_name Header = codes "header"
why_name Form = codes "form"
why_name Place = codes "place"
why_name TooMany = codes "toomany"
why_name Number = codes "number"
why_name Escape = codes "escape"
why_name Resource = codes "resource"
why_name Declared = codes "declared"

-- what standard error says of an end, one line, and nothing where all went well
abbrev pub error_text : End → List ℕ
error_text Done = []
error_text Usage = codes "usage: hotexit [--fail N]... [--fuse N] [--store DIR] replay, run [--workers N], restore, check or made N\n"
error_text (BadScript line why) = codes "line " ++ decimal line ++ codes ": " ++ why_name why ++ codes "\n"
error_text ReadFault = codes "input failed\n"
error_text WriteFault = codes "output failed\n"
error_text NoMemory = codes "out of memory\n"
error_text OpenFault = codes "the vault could not be opened\n"
error_text NotHistory = codes "not a history\n"

-- The meta object of a backup, as JSON. "Reads as an object" is the word of `serde_json`: the last value of a repeated
-- key counts, a whole number is one below 2 ^ 64 that is written without a point or an exponent, and a text that nests
-- deeper than that crate allows doesn't read.
use Rattle.std.specs.Prelude.{ℕ, ◌≤◌, ◌<◌, ◌^◌, List, [], codes, bytes_eq, if◌then◌else◌, Option, Some, None, option_and_then, option_map, is_some, unwrap_or}
use Rattle.std.specs.Str.{is_utf8}
use Rattle.serde_json.specs.Data.{Data, object, string, number, unsigned, member, no_members}
use Rattle.serde_json.specs.Read as json
use Rattle.serde_json.specs.Find.{get, as_number, as_u64, as_str, as_object}
use Rattle.serde_json.specs.Written.{compact_text}
use Rattle.hx_etag.specs.declared.stat.Stat.{Stat}
use Rattle.hx_etag.specs.Etags.{etag_of}
use Rattle.hx_meta.specs.declared.object.Meta.{Meta}

-- the value, if it is an object
abbrev pub only_object : Data → Option Data
only_object value = if is_some (as_object value) then Some value else None

-- the object that the bytes are, none where they aren't one
unfoldable pub object_in : List ℕ → Option Data
object_in bytes = if is_utf8 bytes then option_and_then only_object (json.read bytes) else None

-- the whole number of 64 bits at a key
abbrev pub number_at : List ℕ → Data → Option ℕ
number_at key value = option_and_then as_u64 (option_and_then as_number (get key value))

-- the text at a key
abbrev pub text_at : List ℕ → Data → Option (List ℕ)
text_at key value = option_and_then as_str (get key value)

-- the stat, where the text is its etag
abbrev pub checked_stat : Stat → List ℕ → Option Stat
checked_stat stat etag = if bytes_eq etag (etag_of stat) then Some stat else None

-- the stat of a time, a size and an etag that agree
abbrev pub agreed_stat : Option ℕ → Option ℕ → Option (List ℕ) → Option Stat
agreed_stat (Some mtime) (Some size) (Some etag) = checked_stat (record { mtime = mtime; size = size }) etag
agreed_stat (Some mtime) (Some size) None = None
agreed_stat (Some mtime) None etag = None
agreed_stat None size etag = None

-- The stat of the file that the backup was made from. It is there exactly where the two numbers are and `etag` is the
-- text of their etag; VS Code likewise trusts no etag that isn't known.
abbrev pub base_of : Data → Option Stat
base_of value = agreed_stat (number_at (codes "mtime") value) (number_at (codes "size") value) (text_at (codes "etag") value)

-- the bytes of the type id, none where that key has no text
abbrev pub type_id_of : Data → List ℕ
type_id_of value = unwrap_or (text_at (codes "typeId") value) []

abbrev pub meta_of : Data → Meta
meta_of value = record { base = base_of value; type_id = type_id_of value }

-- the meta that the bytes read as, none where they are no object
abbrev pub meta_in : List ℕ → Option Meta
meta_in bytes = option_map meta_of (object_in bytes)

-- the object that is written where there is a base, with its keys in order
abbrev pub with_base_of : List ℕ → Stat → List ℕ → Data
with_base_of etag stat type_id =
    object (member (codes "etag") (string etag) (member (codes "mtime") (number (unsigned stat.mtime)) (member (codes "size") (number (unsigned stat.size)) (member (codes "typeId") (string type_id) no_members))))

-- the object that is written
abbrev pub object_of : Option Stat → List ℕ → Data
object_of (Some stat) type_id = with_base_of (etag_of stat) stat type_id
object_of None type_id = object (member (codes "typeId") (string type_id) no_members)

-- the numbers of the stat fit 64 bits, as those of each stat in the code do
abbrev pub StatFits : Option Stat → Type 0
StatFits None = Unit {0}
StatFits (Some stat) = (stat.mtime < 2 ^ 64) × (stat.size < 2 ^ 64)

-- an ASCII byte that is printed, or a blank
abbrev pub IsPrintable : ℕ → Type 0
IsPrintable byte = (32 ≤ byte) × (byte ≤ 126)

-- its text, without blanks
abbrev pub meta_text : Meta → List ℕ
meta_text meta = compact_text (object_of meta.base meta.type_id)

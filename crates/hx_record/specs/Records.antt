-- The bytes of a backup, and what bytes read as one. The layout is that of VS Code's backup files: the resource, one
-- blank, a JSON object with the meta, a line feed that is looked for in the first 10,000 bytes, and the content. The
-- limits and the two slot forms are this project's own.
use Rattle.std.specs.Prelude.{ℕ, ◌+◌, Bool, true, ◌==◌, nat_le, if◌then◌else◌, List, [], ◌∷◌, ◌++◌, length, take, drop, Option, Some, None, Result, Ok, Err}
use Rattle.std.specs.List.{position}
use Rattle.hx_etag.specs.declared.stat.Stat.{Stat}
use Rattle.hx_events.specs.declared.backup.Backup.{Backup}
use Rattle.hx_events.specs.declared.backup.SlotForm.{SlotForm}
use Rattle.hx_events.specs.declared.backup.SlotForm.TheVariants.{One, Two}
use Rattle.hx_events.specs.declared.backup.TheConstants.{CONTENT_MAX}
use Rattle.hx_events.specs.Resources.{is_resource}
use Rattle.hx_meta.specs.declared.object.Meta.{Meta}
use Rattle.hx_meta.specs.Metas.{meta_in, meta_text}
use Rattle.hx_record.specs.declared.error.RecordError.{RecordError}
use Rattle.hx_record.specs.declared.error.RecordError.TheVariants.{NoLineFeed, BadResource, NotMeta, OtherType, TooLong}

-- the place of the first such byte
abbrev pub place_in : ℕ → List ℕ → Option ℕ
place_in byte = position (λ other. other == byte)

-- The most bytes of content that a slot form allows. Form One is what an older version wrote.
abbrev pub content_limit : SlotForm → ℕ
content_limit One = 262144
content_limit Two = CONTENT_MAX

-- Whether a backup of this type id is this program's own. In form One the type id isn't looked at.
abbrev pub is_own_type : SlotForm → List ℕ → Bool
is_own_type One type_id = true
is_own_type Two type_id = length type_id == 0

-- the backup of these parts, or the first refusal
abbrev pub backup_of : SlotForm → List ℕ → Option Meta → List ℕ → Result Backup RecordError
backup_of form resource None content = Err NotMeta
backup_of form resource (Some meta) content =
    if is_own_type form meta.type_id
    then (if nat_le (length content) (content_limit form)
    then Ok (record { resource = resource; base = meta.base; content = content })
    else Err TooLong)
    else Err OtherType

-- the same of the first line and of what follows it, with the place of the line's first blank
abbrev pub line_read : SlotForm → List ℕ → Option ℕ → List ℕ → Result Backup RecordError
line_read form line None content = Err BadResource
line_read form line (Some blank) content =
    if is_resource (take blank line)
    then backup_of form (take blank line) (meta_in (drop (blank + 1) line)) content
    else Err BadResource

-- the same of all bytes, with the place of the line feed
abbrev pub split_read : SlotForm → List ℕ → Option ℕ → Result Backup RecordError
split_read form bytes None = Err NoLineFeed
split_read form bytes (Some end) = line_read form (take end bytes) (place_in 32 (take end bytes)) (drop (end + 1) bytes)

-- The backup that the bytes read as in a slot form, or the first refusal, of which want of memory is none.
unfoldable pub record_in : SlotForm → List ℕ → Result Backup RecordError
record_in form bytes = split_read form bytes (place_in 10 (take 10000 bytes))

-- the first line of a backup: the resource, one blank, the meta object and a line feed
abbrev pub preamble_text : List ℕ → Option Stat → List ℕ
preamble_text resource base = resource ++ 32 ∷ (meta_text (record { base = base; type_id = [] }) ++ 10 ∷ [])

-- the bytes of a backup
abbrev pub encoded : Backup → List ℕ
encoded backup = preamble_text backup.resource backup.base ++ backup.content

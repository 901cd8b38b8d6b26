-- The object that is written, and what is read of an object.
use Rattle.std.proofs.Common.{◌≡◌, ◌≤◌, ℕ, Bool, true, false, if◌then◌else◌, option_map, option_and_then, List, Option, Some, None, refl, ◌∙◌, ap, lit≤}
use Rattle.std.specs.Prelude.{is_some}
use Rattle.std.specs.Str.{IsUtf8, is_utf8}
use Rattle.std.proofs.lemmas.Slice.Eq.{bytes_eq-Decides}
use Rattle.std.proofs.lemmas.Str.{is_utf8-from_IsUtf8, IsUtf8-from_is_utf8}
use Rattle.serde_json.specs.Data.{Data, depth}
use Rattle.serde_json.specs.Read.{max_depth}
use Rattle.serde_json.specs.Read as json
use Rattle.serde_json.specs.Find.{as_object}
use Rattle.serde_json.specs.Written.{has_float}
use Rattle.hx_etag.specs.declared.stat.Stat.{Stat}
use Rattle.hx_etag.specs.Etags.{etag_of}
use Rattle.hx_meta.specs.Metas.{object_in, only_object, meta_of, meta_in, object_of}

pub no_float : (base : Option Stat) (type_id : List ℕ) → has_float (object_of base type_id) ≡ false
no_float None type_id = refl
no_float (Some stat) type_id = refl

pub shallow : (base : Option Stat) (type_id : List ℕ) → depth (object_of base type_id) ≤ max_depth
shallow None type_id = lit≤ tt
shallow (Some stat) type_id = lit≤ tt

pub reads_as : (bytes : List ℕ) (value : Data) → IsUtf8 bytes → json.read bytes ≡ Some value → is_some (as_object value) ≡ true → meta_in bytes ≡ Some (meta_of value)
unfolding object_in
reads_as bytes value text reads is_object = rw (is_utf8-from_IsUtf8 bytes text, reads, is_object) refl

pub reads_as_none : (bytes : List ℕ) → (IsUtf8 bytes → json.read bytes ≡ None) → meta_in bytes ≡ None
unfolding object_in
reads_as_none bytes nothing = by_text (is_utf8 bytes) refl
  where
    by_text : (text : Bool) → is_utf8 bytes ≡ text → option_map meta_of (if text then option_and_then only_object (json.read bytes) else None) ≡ None
    by_text true is_text = rw (nothing (IsUtf8-from_is_utf8 bytes is_text)) refl
    by_text false is_text = refl

pub reads_as_other : (bytes : List ℕ) (value : Data) → IsUtf8 bytes → json.read bytes ≡ Some value → is_some (as_object value) ≡ false → meta_in bytes ≡ None
unfolding object_in
reads_as_other bytes value text reads is_object = rw (is_utf8-from_IsUtf8 bytes text, reads, is_object) refl

pub reads_back : (base : Option Stat) (type_id text : List ℕ) → IsUtf8 text → json.read text ≡ Some (object_of base type_id)
    → meta_in text ≡ Some (record { base = base; type_id = type_id })
reads_back None type_id text is_text reads = reads_as text (object_of None type_id) is_text reads refl
reads_back (Some stat) type_id text is_text reads =
    reads_as text (object_of (Some stat) type_id) is_text reads refl
    ∙ ap (λ same. Some (record { base = if same then Some stat else None; type_id = type_id }))
    ((bytes_eq-Decides (etag_of stat) (etag_of stat)).1 refl)

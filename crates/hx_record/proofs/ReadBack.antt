-- What is written of a backup reads as that backup.
use Rattle.std.proofs.Common.{◌≡◌, ◌≢◌, ◌<◌, ◌≤◌, ℕ, suc, ◌+◌, ◌-◌, Bool, true, false, ◌&&◌, List, [], ◌∷◌, ◌++◌, length, take, drop, Option, Some, Result, Ok, Err, refl, sym, ◌∙◌, ap, arith, lit≤, append_assoc}
use Rattle.std.specs.Prelude.{◌==◌, All, IfOk, nat_le, nat_lt}
use Rattle.std.specs.Char.{is_ascii_graphic}
use Rattle.std.specs.List.{list_all, position_or_len}
use Rattle.std.proofs.Math.Seq.{take-append_seam, take-append-add, drop-append-add}
use Rattle.std.proofs.lemmas.Bool.Decides.{nat_tests, Decides-ltb, Decides-eqb}
use Rattle.std.proofs.lemmas.List.{length-append}
use Rattle.std.proofs.lemmas.List.Elements.{All-nil, All-cons, All-head, All-tail, All-append, All-weaker}
use Rattle.hx_etag.specs.declared.stat.Stat.{Stat}
use Rattle.hx_events.specs.declared.backup.Backup.{Backup}
use Rattle.hx_events.specs.declared.backup.SlotForm.{SlotForm}
use Rattle.hx_events.specs.declared.backup.SlotForm.TheVariants.{One, Two}
use Rattle.hx_meta.specs.Metas.{IsPrintable, meta_in}
use Rattle.hx_events.specs.Resources.{is_resource}
use Rattle.hx_record.specs.Records.{place_in, content_limit, is_own_type, backup_of, line_read, split_read, record_in}

opened : (form : SlotForm) (bytes : List ℕ) → record_in form bytes ≡ split_read form bytes (place_in 10 (take 10000 bytes))
unfolding record_in
opened form bytes = refl

-- the first place of a byte
other_byte : (a b : ℕ) → a ≢ b → (a == b) ≡ false
other_byte a b other = grind (arith, nat_tests)

same_byte : (b : ℕ) → (b == b) ≡ true
same_byte b = (Decides-eqb b b).1 refl

front_len : (byte : ℕ) (xs ys : List ℕ) → All (λ b. b ≢ byte) xs → position_or_len (λ b. b == byte) (xs ++ byte ∷ ys) ≡ length xs
front_len byte [] ys others = rw (same_byte byte) refl
front_len byte (x ∷ xs) ys others =
    rw (other_byte x byte (All-head (λ b. b ≢ byte) x xs others))
    (ap (λ n. 1 + n) (front_len byte xs ys (All-tail (λ b. b ≢ byte) x xs others)) ∙ omega arith)

pub place_first : (byte : ℕ) (xs ys : List ℕ) → All (λ b. b ≢ byte) xs → place_in byte (xs ++ byte ∷ ys) ≡ Some (length xs)
place_first byte xs ys others =
    let within : nat_lt (length xs) (length (xs ++ byte ∷ ys)) ≡ true = (Decides-ltb (length xs) (length (xs ++ byte ∷ ys))).1 (omega (arith, length-append xs (byte ∷ ys))) in
    rw (front_len byte xs ys others, within) refl

-- the parts of joined lists
after_seam : (xs ys : List ℕ) (y : ℕ) → drop (length xs + 1) (xs ++ y ∷ ys) ≡ ys
after_seam xs ys y = drop-append-add xs (y ∷ ys) 1

take_past : (n : ℕ) (xs ys : List ℕ) (y : ℕ) → length xs < n → take n (xs ++ y ∷ ys) ≡ xs ++ y ∷ take (n - suc (length xs)) ys
take_past n xs ys y short =
    ap (λ k. take k (xs ++ y ∷ ys)) (omega arith) ∙ take-append-add xs (y ∷ ys) (suc (n - suc (length xs)))

-- a resource is printable, without blanks
both_true : (a b : Bool) → (a && b) ≡ true → (a ≡ true) × (b ≡ true)
both_true true b ok = (refl, ok)
both_true false b ok = cc

graphic : (x : ℕ) → is_ascii_graphic x ≡ true → (33 ≤ x) × (x ≤ 126)
graphic x ok = (grind (arith, nat_tests), grind (arith, nat_tests))

all_graphic : (text : List ℕ) → list_all is_ascii_graphic text ≡ true → All (λ b. (33 ≤ b) × (b ≤ 126)) text
all_graphic [] ok = All-nil (λ b. (33 ≤ b) × (b ≤ 126))
all_graphic (x ∷ text) ok =
    let parts = both_true (is_ascii_graphic x) (list_all is_ascii_graphic text) ok in
    All-cons (λ b. (33 ≤ b) × (b ≤ 126)) x text (graphic x parts.0) (all_graphic text parts.1)

short_resource : (text : List ℕ) → is_resource text ≡ true → length text ≤ 1000
short_resource text ok = grind (arith, nat_tests)

resource_bytes : (text : List ℕ) → is_resource text ≡ true → All (λ b. (33 ≤ b) × (b ≤ 126)) text
resource_bytes text ok = all_graphic text (both_true _ _ ok).1

-- the parts are read
own_type : (form : SlotForm) → is_own_type form [] ≡ true
own_type One = refl
own_type Two = refl

within_limit : (a b : ℕ) → a ≤ b → nat_le a b ≡ true
within_limit a b within = grind (arith, nat_tests)

parts_read : (form : SlotForm) (resource content : List ℕ) (base : Option Stat) → length content ≤ content_limit form
    → backup_of form resource (Some (record { base = base; type_id = [] })) content ≡ Ok (record { resource = resource; base = base; content = content })
parts_read form resource content base short =
    rw (own_type form, within_limit (length content) (content_limit form) short) refl

line_reads : (form : SlotForm) (resource meta content : List ℕ) (base : Option Stat) → is_resource resource ≡ true → meta_in meta ≡ Some (record { base = base; type_id = [] })
    → length content ≤ content_limit form
    → line_read form (resource ++ 32 ∷ meta) (place_in 32 (resource ++ 32 ∷ meta)) content ≡ Ok (record { resource = resource; base = base; content = content })
line_reads form resource meta content base named is_meta short =
    let others : All (λ b. b ≢ 32) resource = All-weaker (λ b. (33 ≤ b) × (b ≤ 126)) (λ b. b ≢ 32) (λ b h. omega arith) resource (resource_bytes resource named) in
    ap (λ at. line_read form (resource ++ 32 ∷ meta) at content) (place_first 32 resource meta others)
    ∙ rw (take-append_seam resource (32 ∷ meta), named, after_seam resource meta 32, is_meta) (parts_read form resource content base short)

split_reads : (form : SlotForm) (n : ℕ) (resource meta content : List ℕ) (base : Option Stat) → 1202 ≤ n → is_resource resource ≡ true → All IsPrintable meta → length meta ≤ 200
    → meta_in meta ≡ Some (record { base = base; type_id = [] }) → length content ≤ content_limit form
    → split_read form ((resource ++ 32 ∷ meta) ++ 10 ∷ content) (place_in 10 (take n ((resource ++ 32 ∷ meta) ++ 10 ∷ content))) ≡ Ok (record { resource = resource; base = base; content = content })
split_reads form n resource meta content base long named printable few is_meta short =
    let line = resource ++ 32 ∷ meta in
    let whole = line ++ 10 ∷ content in
    let line_short : length line < n = omega (arith, length-append resource (32 ∷ meta), short_resource resource named) in
    let others : All (λ b. b ≢ 10) line =
    All-append (λ b. b ≢ 10) resource (32 ∷ meta)
    (All-weaker (λ b. (33 ≤ b) × (b ≤ 126)) (λ b. b ≢ 10) (λ b h. omega arith) resource (resource_bytes resource named))
    (All-cons (λ b. b ≢ 10) 32 meta (omega arith) (All-weaker IsPrintable (λ b. b ≢ 10) (λ b h. omega arith) meta printable)) in
    let place : place_in 10 (take n whole) ≡ Some (length line) =
    ap (place_in 10) (take_past n line content 10 line_short) ∙ place_first 10 line (take (n - suc (length line)) content) others in
    ap (split_read form whole) place
    ∙ ap (λ (l : List ℕ). line_read form l (place_in 32 l) (drop (length line + 1) whole)) (take-append_seam line (10 ∷ content))
    ∙ ap (line_read form line (place_in 32 line)) (after_seam line content 10)
    ∙ line_reads form resource meta content base named is_meta short

pub record_reads : (form : SlotForm) (resource meta content : List ℕ) (base : Option Stat) → is_resource resource ≡ true → All IsPrintable meta → length meta ≤ 200
    → meta_in meta ≡ Some (record { base = base; type_id = [] }) → length content ≤ content_limit form
    → record_in form (resource ++ 32 ∷ (meta ++ 10 ∷ content)) ≡ Ok (record { resource = resource; base = base; content = content })
record_reads form resource meta content base named printable few is_meta short =
    ap (record_in form) (sym (append_assoc resource (32 ∷ meta) (10 ∷ content)))
    ∙ opened form ((resource ++ 32 ∷ meta) ++ 10 ∷ content)
    ∙ split_reads form 10000 resource meta content base (lit≤ tt) named printable few is_meta short

-- the same of the first line with a content behind it
pub line_reads_back : (form : SlotForm) (resource meta content : List ℕ) (base : Option Stat) → is_resource resource ≡ true → All IsPrintable meta → length meta ≤ 200
    → meta_in meta ≡ Some (record { base = base; type_id = [] }) → length content ≤ content_limit form
    → record_in form ((resource ++ 32 ∷ (meta ++ 10 ∷ [])) ++ content) ≡ Ok (record { resource = resource; base = base; content = content })
line_reads_back form resource meta content base named printable few is_meta short =
    ap (record_in form)
    (append_assoc resource (32 ∷ (meta ++ 10 ∷ [])) content
    ∙ ap (λ (l : List ℕ). resource ++ 32 ∷ l) (append_assoc meta (10 ∷ []) content))
    ∙ record_reads form resource meta content base named printable few is_meta short

-- where the bytes are known, what they read as with a content behind them is known of a result
pub ok_reads : {X E : Type 0} (items : X → List ℕ) (form : SlotForm) (content : List ℕ) (backup : Backup) (whole : List ℕ) (made : Result X E)
    → record_in form (whole ++ content) ≡ Ok backup → IfOk made (λ x. items x ≡ whole) → IfOk made (λ x. record_in form (items x ++ content) ≡ Ok backup)
ok_reads items form content backup whole (Ok x) reads is_whole = ap (λ (l : List ℕ). record_in form (l ++ content)) is_whole ∙ reads
ok_reads items form content backup whole (Err e) reads is_whole = tt

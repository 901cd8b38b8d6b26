-- The bytes of an entry.
use Rattle.std.specs.Prelude.{◌≡◌, ◌<◌, ◌≤◌, ◌+◌, ◌^◌, ◌&&◌, ℕ, suc, Bool, true, nat_le, List, [], ◌∷◌, ◌++◌, length, take, drop, codes, decimal, Ok, refl, get_or}
use Rattle.std.proofs.Common.{sym, ◌∙◌, ap, arith, lit≤}
use Rattle.std.specs.Char.{is_ascii_graphic}
use Rattle.std.specs.List.{list_all}
use Rattle.std.proofs.lemmas.Bool.Decides.{nat_tests}
use Rattle.std.proofs.lemmas.Fmt.{decimal_is_IsNumeral, length-decimal-le}
use Rattle.std.proofs.lemmas.List.{append_assoc, length-append, length-take, take-append-drop}
use Rattle.std.proofs.lemmas.Str.Parse.{digit_at}
use Rattle.hx_events.specs.Resources.{is_resource}
use Rattle.hx_events.specs.declared.backup.SlotForm.TheVariants.{Two}
use Rattle.hx_record.specs.Records.{record_in}
use Rattle.hx_slots.specs.Frames.{Frame, frame_in, frame_head, frame_bytes}
use Rattle.hx_slots.proofs.FrameSteps.{frame_reads}
use Rattle.hx_vault.specs.Sides.{IsFrame}
use Rattle.hx_pairs.specs.OnePair.{Reads}
use Rattle.hx_history_laws.specs.declared.entry.HistoryEntry.{HistoryEntry}
use Rattle.hx_history_laws.specs.Entries.{resource_at, backup_of_entry}

-- These bytes are a frame with this stamp, and read as the backup of the entry.
pub record IsEntryFrame (stamp : ℕ) (e : HistoryEntry) (bytes : List ℕ) : Type 0 where
  pub frame : Frame
  pub whole : IsFrame bytes frame
  pub reads : Reads frame (backup_of_entry e)
  pub stamped : frame.stamp ≡ stamp

graphic : (n : ℕ) → 48 ≤ n → n ≤ 57 → is_ascii_graphic n ≡ true
graphic n from to = grind (arith, nat_tests)

all_graphic : (ds : List ℕ) → ((i : ℕ) → i < length ds → (48 ≤ get_or ds i 0) × (get_or ds i 0 ≤ 57)) → list_all is_ascii_graphic ds ≡ true
all_graphic [] each = refl
all_graphic (d ∷ ds) each =
    let here = each 0 (omega arith) in
    ap (λ (b : Bool). b && list_all is_ascii_graphic ds) (graphic d here.0 here.1)
    ∙ all_graphic ds (λ i lt. each (suc i) (omega (arith, lt)))

all_digits : (n : ℕ) → n < 2 ^ 64 → list_all is_ascii_graphic (decimal n) ≡ true
all_digits n small = all_graphic (decimal n) (λ i within. let d = digit_at (decimal n) i (decimal_is_IsNumeral n small).0.1 within in (omega (arith, d.0), omega (arith, d.1)))

by_parts : (digits : List ℕ) → length digits ≤ 20 → list_all is_ascii_graphic digits ≡ true → is_resource (codes "history:" ++ digits) ≡ true
by_parts digits short graphic =
    let long : length (codes "history:" ++ digits) ≡ 8 + length digits = length-append (codes "history:") digits in
    let least : nat_le 1 (length (codes "history:" ++ digits)) ≡ true = at_least 1 (length (codes "history:" ++ digits)) (omega (arith, long)) in
    let most : nat_le (length (codes "history:" ++ digits)) 1000 ≡ true = at_least (length (codes "history:" ++ digits)) 1000 (omega (arith, long, short)) in
    rw (least, most) graphic
  where
    at_least : (a b : ℕ) → a ≤ b → nat_le a b ≡ true
    at_least a b le = grind (arith, nat_tests)

-- the resource of an entry is one
pub resource_named : (number : ℕ) → number < 2 ^ 64 → is_resource (resource_at number) ≡ true
resource_named number small = by_parts (decimal number) (length-decimal-le 20 number (lit≤ tt) (omega arith) small) (all_digits number small)

-- The head of a frame, the entry's first line and the first bytes of its content make one frame with the other bytes behind them.
pub first_frame : (cut stamp size : ℕ) (e : HistoryEntry) (line block : List ℕ) → stamp < 2 ^ 64 → length line ≤ 1202 → length e.content ≤ 524288 → size ≡ length line + length e.content
    → record_in Two (line ++ e.content) ≡ Ok (backup_of_entry e) → block ≡ (frame_head stamp size ++ line) ++ take cut e.content → IsEntryFrame stamp e (block ++ drop cut e.content)
first_frame cut stamp size e line block small short few counts reads is =
    let long : length (line ++ e.content) ≡ length line + length e.content = length-append line e.content in
    let whole : block ++ drop cut e.content ≡ frame_bytes stamp (line ++ e.content) =
    ap (λ (l : List ℕ). l ++ drop cut e.content) is
    ∙ append_assoc (frame_head stamp size ++ line) (take cut e.content) (drop cut e.content)
    ∙ ap (λ (l : List ℕ). (frame_head stamp size ++ line) ++ l) (take-append-drop cut e.content)
    ∙ append_assoc (frame_head stamp size) line e.content
    ∙ ap (λ n. frame_head stamp n ++ (line ++ e.content)) (counts ∙ sym long) in
    record {
      frame = record { form = Two; stamp = stamp; body = line ++ e.content };
      whole = λ tail. ap (λ (l : List ℕ). frame_in (l ++ tail)) whole ∙ frame_reads stamp (line ++ e.content) tail small (omega (arith, long, short, few));
      reads = reads;
      stamped = refl;
    }

-- how long the first block is
pub first_length : (cut stamp size : ℕ) (line block content : List ℕ) → cut ≤ 4096 → length line ≤ 1202 → block ≡ (frame_head stamp size ++ line) ++ take cut content → length block ≤ 8192
first_length cut stamp size line block content most short is =
    let whole = ap (λ (l : List ℕ). length l) is ∙ length-append (frame_head stamp size ++ line) (take cut content) in
    let front = length-append (frame_head stamp size) line in
    let head : length (frame_head stamp size) ≡ 16 = refl in
    omega (arith, whole, front, head, short, most, length-take cut content)

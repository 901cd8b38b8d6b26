-- The blocks in which a backup is put behind its gate.
use Rattle.std.specs.Prelude.{◌≡◌, ◌≤◌, ◌<◌, ◌^◌, ℕ, ◌+◌, ◌*◌, List, ◌++◌, length, take, drop, Ok, refl}
use Rattle.std.proofs.Common.{sym, ◌∙◌, ap, arith}
use Rattle.std.proofs.lemmas.List.{append_assoc, length-append, length-take}
use Rattle.hx_events.specs.declared.backup.Backup.{Backup}
use Rattle.hx_events.specs.declared.backup.SlotForm.TheVariants.{Two}
use Rattle.hx_record.specs.Records.{record_in}
use Rattle.hx_rules.specs.Backups.{Begun, backup_of}
use Rattle.hx_slots.specs.Frames.{Frame, frame_in, frame_head, frame_bytes}
use Rattle.hx_slots.proofs.FrameSteps.{frame_reads}
use Rattle.hx_vault.specs.Sides.{IsFrame}
use Rattle.hx_pairs.specs.Stages.{IsBlock}

-- the head of a frame that reads as the backup, and the first block of its content
abbrev pub IsFirst : ℕ → Backup → List ℕ → Type 0
IsFirst stamp backup block = (head : List ℕ) × (frame : Frame) × IsFrame (head ++ backup.content) frame × (record_in frame.form frame.body ≡ Ok backup) × (frame.stamp ≡ stamp) × (block ≡ head ++ take 4096 backup.content)

-- the head, the backup's first line and the first block of its content
pub first_is : (stamp size : ℕ) (backup : Backup) (line block : List ℕ) → stamp < 2 ^ 64 → length line ≤ 1202 → length backup.content ≤ 524288 → size ≡ length line + length backup.content
    → record_in Two (line ++ backup.content) ≡ Ok backup → block ≡ (frame_head stamp size ++ line) ++ take 4096 backup.content → IsFirst stamp backup block
first_is stamp size backup line block small short few counts reads is =
    let long : length (line ++ backup.content) ≡ length line + length backup.content = length-append line backup.content in
    let whole : (frame_head stamp size ++ line) ++ backup.content ≡ frame_bytes stamp (line ++ backup.content) = append_assoc (frame_head stamp size) line backup.content ∙ ap (λ n. frame_head stamp n ++ (line ++ backup.content)) (counts ∙ sym long) in (
      frame_head stamp size ++ line,
      record { form = Two; stamp = stamp; body = line ++ backup.content },
      λ tail. ap (λ (l : List ℕ). frame_in (l ++ tail)) whole ∙ frame_reads stamp (line ++ backup.content) tail small (omega (arith, long, short, few)),
      reads,
      refl,
      is,
    )

-- the first block of a begun backup
pub block_first : (stamp : ℕ) (resource block : List ℕ) (b : Begun) → b.blocks ≡ 0 → IsFirst stamp (backup_of resource b.snapshot) block → IsBlock resource stamp b block
block_first stamp resource block b none first = (λ h. first, λ more. absurd (omega (arith, more, none)))

-- one of the blocks behind the first
pub block_later : (stamp from : ℕ) (resource block : List ℕ) (b : Begun) → 0 < b.blocks → from ≡ 4096 * b.blocks → block ≡ take 4096 (drop from b.snapshot.content) → IsBlock resource stamp b block
block_later stamp from resource block b some at is = (λ h. absurd (omega (arith, some, h)), λ more. is ∙ ap (λ n. take 4096 (drop n b.snapshot.content)) at)

-- how long the first block is
pub block_length : (stamp size : ℕ) (head more block line content : List ℕ) → length line ≤ 1202 → head ≡ frame_head stamp size → more ≡ head ++ line → block ≡ more ++ take 4096 content → length block ≤ 8192
block_length stamp size head more block line content short is_head is_more is =
    let whole = ap (λ (l : List ℕ). length l) is ∙ length-append more (take 4096 content) in
    let front = ap (λ (l : List ℕ). length l) is_more ∙ length-append head line in
    let first : length head ≡ 16 = ap (λ (l : List ℕ). length l) is_head in
    omega (arith, whole, front, first, short, length-take 4096 content)

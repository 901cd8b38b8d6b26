use Rattle.std.proofs.Common.{rules, arith, ◌≡◌, ◌+◌, ◌++◌, ℕ, List, Some, Ok, length, take, ◌∙◌, ap, refl}
use Rattle.hx_events.specs.declared.backup.SlotForm.TheVariants.{Two}
use Rattle.hx_record.specs.Records.{record_in}
use Rattle.hx_slots.specs.Frames.{frame_head}
use Rattle.hx_history_laws.specs.declared.entry.HistoryEntry.{HistoryEntry}
use Rattle.hx_history_laws.specs.Entries.{backup_of_entry}
use Rattle.hx_history_laws.specs.Frames.{first_frame, first_length}
use Rattle.hx_history.proofs.frames.first_block.Goals as goal

pub returns-clause-frame : goal.returns-clause-frame
returns-clause-frame c =
    let e : HistoryEntry = record { number = c.args.number; moment = c.args.moment; content = c.args.content.now } in
    let line : List ℕ = c.in_ok-line.line.items in
    let size : ℕ = length line + length e.content in
    let head : c.put_frame_head.new.out.items ≡ frame_head c.args.stamp size = search rules in
    let more : c.extend_from_slice.new.self.items ≡ c.put_frame_head.new.out.items ++ line = search rules in
    let last : c.extend_from_slice-2.new.self.items ≡ c.extend_from_slice.new.self.items ++ take 4096 e.content = search rules in
    let reads : record_in Two (line ++ e.content) ≡ Ok (backup_of_entry e) =
    c.in_ok-line.ensures.read_back Two e.content c.requires
    ∙ ap (λ (l : List ℕ). Ok (record { resource = l; base = Some (record { mtime = e.moment; size = length e.content }); content = e.content })) (c.deref.ensures.value ∙ c.in_ok-resource.ensures.text) in
    first_frame 4096 c.args.stamp size e line c.extend_from_slice-2.new.self.items (omega arith) c.in_ok-line.ensures.short c.requires refl reads
    (last ∙ ap (λ (l : List ℕ). l ++ take 4096 e.content) (more ∙ ap (λ (l : List ℕ). l ++ line) head))

pub returns-clause-short : goal.returns-clause-short
returns-clause-short c =
    let line : List ℕ = c.in_ok-line.line.items in
    let size : ℕ = length line + length c.args.content.now in
    let head : c.put_frame_head.new.out.items ≡ frame_head c.args.stamp size = search rules in
    let more : c.extend_from_slice.new.self.items ≡ c.put_frame_head.new.out.items ++ line = search rules in
    let last : c.extend_from_slice-2.new.self.items ≡ c.extend_from_slice.new.self.items ++ take 4096 c.args.content.now = search rules in
    first_length 4096 c.args.stamp size line c.extend_from_slice-2.new.self.items c.args.content.now (omega arith) c.in_ok-line.ensures.short
    (last ∙ ap (λ (l : List ℕ). l ++ take 4096 c.args.content.now) (more ∙ ap (λ (l : List ℕ). l ++ line) head))

use Rattle.std.proofs.Common.{rules, arith, ◌≡◌, ◌+◌, ◌++◌, ℕ, List, length, take, ◌∙◌, ap}
use Rattle.hx_events.specs.declared.backup.Backup.{Backup}
use Rattle.hx_events.specs.declared.backup.SlotForm.TheVariants.{Two}
use Rattle.hx_slots.specs.Frames.{frame_head}
use Rattle.hx_registry.specs.Blocks.{first_is, block_length}
use Rattle.hx_registry.proofs.blocks.first_block.Goals as goal

pub returns-clause-first : goal.returns-clause-first
returns-clause-first c =
    let backup : Backup = record { resource = c.args.resource.now; base = c.args.base; content = c.args.content.now } in
    let line = c.in_ok-line.line.items in
    let size : ℕ = length line + length backup.content in
    let head : c.put_frame_head.new.out.items ≡ frame_head c.args.stamp size = search rules in
    let more : c.extend_from_slice.new.self.items ≡ c.put_frame_head.new.out.items ++ line = search rules in
    let last : c.extend_from_slice-2.new.self.items ≡ c.extend_from_slice.new.self.items ++ take 4096 backup.content = search rules in
    first_is c.args.stamp size backup line c.extend_from_slice-2.new.self.items (omega arith) c.in_ok-line.ensures.short c.requires.content (omega arith) (c.in_ok-line.ensures.read_back Two backup.content c.requires.content)
    (last ∙ ap (λ (l : List ℕ). l ++ take 4096 backup.content) (more ∙ ap (λ (l : List ℕ). l ++ line) head))

pub returns-clause-short : goal.returns-clause-short
returns-clause-short c =
    let line = c.in_ok-line.line.items in
    let size : ℕ = length line + length c.args.content.now in
    let head : c.put_frame_head.new.out.items ≡ frame_head c.args.stamp size = search rules in
    let more : c.extend_from_slice.new.self.items ≡ c.put_frame_head.new.out.items ++ line = search rules in
    let last : c.extend_from_slice-2.new.self.items ≡ c.extend_from_slice.new.self.items ++ take 4096 c.args.content.now = search rules in
    block_length c.args.stamp size _ _ _ line c.args.content.now c.in_ok-line.ensures.short head more last

use Rattle.std.proofs.Common.{◌≡◌, ◌∙◌, ℕ, List, Result, Ok, Err, IfOk, ap, sym, subst}
use Rattle.hx_events.specs.declared.backup.Backup.{Backup}
use Rattle.hx_rules.specs.Backups.{backup_of}
use Rattle.hx_pairs.specs.Stages.{IsBlock}
use Rattle.hx_registry.specs.Blocks.{IsFirst, block_first}
use Rattle.hx_registry.proofs.blocks.next_block.Goals as goal

if_ok : {B E : Type 0} (items : B → List ℕ) (r : Result B E) (P Q : List ℕ → Type 0) → ((l : List ℕ) → P l → Q l) → IfOk r (λ b. P (items b)) → IfOk r (λ b. Q (items b))
if_ok items (Ok b) P Q next is = next (items b) is
if_ok items (Err e) P Q next is = tt

pub returns-in-0-clause-block : goal.returns-in-0-clause-block
returns-in-0-clause-block c =
    let begun = c.args.backup.now in
    let put : Backup = record { resource = c.args.resource.now; base = c.base.result; content = c.content.result.now } in
    let same : put ≡ backup_of c.args.resource.now begun.snapshot = λ i. record { resource = c.args.resource.now; base = c.base.ensures i; content = c.content.ensures i } in
    if_ok (λ b. b.items) c.first_block.result (IsFirst c.args.stamp put) (IsBlock c.args.resource.now c.args.stamp begun)
    (λ l first. block_first c.args.stamp c.args.resource.now l begun (sym c.blocks-2.ensures ∙ c.in-0.is) (subst (λ (b : Backup). IsFirst c.args.stamp b l) same first)) c.first_block.ensures.first

use Rattle.std.proofs.Common.{◌∷◌, [], ◌/◌, ◌%◌, true, ◌≡◌, ◌<◌, ◌+◌, ◌-◌, ◌++◌, ℕ, drop, length, take, get_or, false, refl, rules, arith}
use Rattle.std.specs.Fmt.{digit_glyph}
use Rattle.hx_base.specs.Escapes.{is_plain}
use Rattle.hx_base.proofs.EscapeLaws.{good, read_back}
use Rattle.hx_base.proofs.EscapeSteps.{run, run_on, all_written, escape_turn, escape_here, three_pushed, write_more}
use Rattle.hx_base.proofs.escapes.escape.Goals as goal

pub loop-at-preserved-then-is_plain_byte : goal.loop-at-preserved-then-is_plain_byte
loop-at-preserved-then-is_plain_byte c =
    let bytes = c.args.bytes.now in
    let at = c.loop-at.at in
    let end : ℕ = at + 1 + c.plain_run.result in
    let plain : is_plain (get_or bytes at 0) ≡ true = search rules in
    let is : end ≡ at + run (drop at bytes) = run_on bytes at c.plain_run.result _ (omega arith) refl plain c.plain_run.ensures.value in
    let more : c.extend_from_slice.new.self.items ≡ c.loop-at.text.items ++ take (end - at) (drop at bytes) = search rules in
    record {
      within = search rules;
      text = write_more _ _ _ _ _ _ c.loop-at.invariant.text (escape_turn bytes at end is) more;
    }

pub loop-at-preserved : goal.loop-at-preserved
loop-at-preserved c =
    let bytes = c.args.bytes.now in
    let at = c.loop-at.at in
    let inside : at < length bytes = omega arith in
    let other : is_plain (get_or bytes at 0) ≡ false = search rules in
    let mark : c.push.new.self.items ≡ c.loop-at.text.items ++ 37 ∷ [] = search rules in
    let high : c.push-else-is_plain_byte.new.self.items ≡ c.push.new.self.items ++ digit_glyph true (get_or bytes at 0 / 16) ∷ [] = search rules in
    let low : c.push-else-is_plain_byte-2.new.self.items ≡ c.push-else-is_plain_byte.new.self.items ++ digit_glyph true (get_or bytes at 0 % 16) ∷ [] = search rules in
    record {
      within = omega arith;
      text = write_more _ _ _ _ _ _ c.loop-at.invariant.text (escape_here bytes at inside other) (three_pushed _ _ _ _ _ _ _ mark high low);
    }

pub returns-clause-good : goal.returns-clause-good
returns-clause-good c = good c.args.bytes.now c.loop-at.text.items (all_written c.loop-at.text.items c.args.bytes.now c.loop-at.at (omega arith) c.loop-at.invariant.text) (λ k. omega (arith, c.type_inv.bytes k))

pub returns-clause-read_back : goal.returns-clause-read_back
returns-clause-read_back c = read_back c.args.bytes.now c.loop-at.text.items (all_written c.loop-at.text.items c.args.bytes.now c.loop-at.at (omega arith) c.loop-at.invariant.text) (λ k. omega (arith, c.type_inv.bytes k))

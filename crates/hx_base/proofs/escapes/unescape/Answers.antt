use Rattle.std.proofs.Common.{◌≡◌, ◌<◌, ◌+◌, ◌-◌, ◌++◌, ◌∷◌, [], ℕ, true, false, drop, length, take, get_or, Some, None, refl, rules, arith, sym, ◌∙◌, ap}
use Rattle.hx_base.specs.Escapes.{is_plain}
use Rattle.hx_base.proofs.EscapeSteps.{run, run_on, front_is, unescape_turn, bad_turn, write_more, IsEscape, is_escape, escape_read, escape_is_good, escape_within, no_escape}
use Rattle.hx_base.proofs.escapes.unescape.Goals as goal

pub loop-at-preserved-then-is_plain_byte : goal.loop-at-preserved-then-is_plain_byte
loop-at-preserved-then-is_plain_byte c =
    let text = c.args.text.now in
    let at = c.loop-at.at in
    let end : ℕ = at + 1 + c.plain_run.result in
    let plain : is_plain (get_or text at 0) ≡ true = search rules in
    let is : end ≡ at + run (drop at text) = run_on text at c.plain_run.result _ (omega arith) refl plain c.plain_run.ensures.value in
    let more : c.extend_from_slice.new.self.items ≡ c.loop-at.bytes.items ++ take (end - at) (drop at text) = search rules in
    record {
      within = search rules;
      bytes = write_more _ _ _ _ _ _ c.loop-at.invariant.bytes (unescape_turn text at end is) more;
      bad = bad_turn text at end is ∙ c.loop-at.invariant.bad;
    }

pub loop-at-preserved : goal.loop-at-preserved
loop-at-preserved c =
    let text = c.args.text.now in
    let at = c.loop-at.at in
    let mark : IsEscape (drop at text) c.in-Some.byte = is_escape (drop at text) c.in-Some.byte (sym (front_is text at _ _ (omega arith) refl c.escape_at_front.ensures) ∙ c.in-Some.is) in
    let pushed : c.push.new.self.items ≡ c.loop-at.bytes.items ++ c.in-Some.byte ∷ [] = search rules in
    record {
      within = escape_within text at c.in-Some.byte mark;
      bytes = write_more _ _ _ _ _ _ c.loop-at.invariant.bytes (escape_read text at c.in-Some.byte mark) pushed;
      bad = escape_is_good text at c.in-Some.byte mark ∙ c.loop-at.invariant.bad;
    }

pub returns-in_default-clause-bad : goal.returns-in_default-clause-bad
returns-in_default-clause-bad c = λ place is_error.
    let text = c.args.text.now in
    let at = c.loop-at.at in
    let inside : at < length text = omega arith in
    let other : is_plain (get_or text at 0) ≡ false = search rules in
    let place_is : at ≡ place = cc in
    let none : c.escape_at_front.result ≡ None = search rules in
    sym c.loop-at.invariant.bad
    ∙ no_escape text at inside other (sym (front_is text at _ _ (omega arith) refl c.escape_at_front.ensures) ∙ none)
    ∙ ap Some place_is

use Rattle.std.proofs.Common.{rules, ◌≡◌, ◌++◌, ◌∷◌, [], ◌/◌, ◌%◌}
use Rattle.std.specs.Char.{digit_char}
use Rattle.hx_etag.specs.Etags.{numeral}
use Rattle.hx_etag.proofs.Numerals.{more_digits, one_digit}
use Rattle.hx_etag.proofs.digits.+push_numeral.Goals.{then-number-base+in_ok-push_numeral, else-number-base}
use Rattle.hx_etag.proofs.digits.+push_numeral.Goals as goal

pub returns : goal.returns
returns t c =
    let old = c.args.out.now.items in
    let base = c.args.base in
    let number = c.args.number in
    let last : c.push.new.self.items ≡ c.if-number-base.out.items ++ digit_char (number % base) ∷ [] = search rules in
    elim c.if-number-base.branch [
      | then-number-base+in_ok-push_numeral w ↦
          let front : c.if-number-base.out.items ≡ old ++ numeral base (number / base) = cc w.in_ok-push_numeral.ensures in
          more_digits old c.if-number-base.out.items c.push.new.self.items base number c.requires.low w.if-number-base.true front last
      | else-number-base w ↦
          let front : c.if-number-base.out.items ≡ old = cc in
          one_digit old c.if-number-base.out.items c.push.new.self.items base number w.if-number-base.false front last
    ]

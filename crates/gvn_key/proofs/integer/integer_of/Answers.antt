use Rattle.std.proofs.Common.{◌≡◌, ◌∙◌, ◌-ℤ◌, pos, Some, refl, sym, ap, arith}
use Rattle.std.specs.Str.Parse.{digits_value}
use Rattle.std.proofs.lemmas.Int.{ints}
use mir.Val.{to_z, of_z}
use mir.Syntax.{w64}
use Rattle.gvn_key.proofs.Numbers.{rest}
use Rattle.gvn_key.proofs.Integers.{minus_digits, plain_digits, minus_value}
use Rattle.gvn_key.proofs.integer.integer_of.Goals as goal

pub whole-requires-clause-digits : goal.whole-requires-clause-digits
whole-requires-clause-digits c = (minus_digits c.args.text.now (sym c.is_integer.ensures ∙ c.if-not-is_integer.false) c.if-first-eq45.true).digits

pub whole-requires-clause-count : goal.whole-requires-clause-count
whole-requires-clause-count c = (minus_digits c.args.text.now (sym c.is_integer.ensures ∙ c.if-not-is_integer.false) c.if-first-eq45.true).few

pub whole-requires-else-first-eq45-clause-digits : goal.whole-requires-else-first-eq45-clause-digits
whole-requires-else-first-eq45-clause-digits c = (plain_digits c.args.text.now (sym c.is_integer.ensures ∙ c.if-not-is_integer.false) c.if-first-eq45.false).digits

pub whole-requires-else-first-eq45-clause-count : goal.whole-requires-else-first-eq45-clause-count
whole-requires-else-first-eq45-clause-count c = (plain_digits c.args.text.now (sym c.is_integer.ensures ∙ c.if-not-is_integer.false) c.if-first-eq45.false).few

pub returns-then-first-eq45 : goal.returns-then-first-eq45
returns-then-first-eq45 c =
    let text = c.args.text.now in
    let v = digits_value 10 (rest text) in
    let same : to_z w64 (of_z w64 (pos 0 -ℤ to_z w64 (of_z w64 c.whole.result))) ≡ pos 0 -ℤ pos v = omega (arith, ints, c.whole.ensures.value, c.whole.ensures.bound) in
    ap (λ z. Some z) same ∙ minus_value text v (sym c.is_integer.ensures ∙ c.if-not-is_integer.false) c.if-first-eq45.true refl

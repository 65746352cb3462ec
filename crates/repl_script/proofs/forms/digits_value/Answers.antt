use Rattle.std.proofs.Common.{◌≡◌, ◌<◌, ◌^◌, ◌+◌, ◌∙◌, ℕ, sym, ap, subst, take, arith}
use Rattle.std.specs.Option.{SomeIff}
use Rattle.std.specs.Prelude.{Option}
use Rattle.std.specs.Str.Parse.{digits_value}
use Rattle.std.proofs.lemmas.List.{take_all}
use Rattle.std.proofs.lemmas.Str.Parse.{digits_value-take-le}
use Rattle.gvn_key.proofs.DigitValues.{value_next}
use Rattle.repl_script.proofs.forms.digits_value.Goals as goal

pub loop-digit-preserved : goal.loop-digit-preserved
loop-digit-preserved c =
    let i = c.loop-digit.invariant in
    let h = value_next c.args.digits.now c.loop-digit.digit-index c.loop-digit-test.true c.requires in
    record { sum = omega (arith, h, i.sum, c.from.ensures, c.in_ok-checked_mul.ensures, c.in_ok-value.ensures); fits = omega (arith, c.in_ok-value.ensures) }

pub returns-in_err-checked_mul : goal.returns-in_err-checked_mul
returns-in_err-checked_mul c =
    let i = c.loop-digit.invariant in
    let ds = c.args.digits.now in
    let h = value_next ds c.loop-digit.digit-index c.loop-digit-test.true c.requires in
    let b = digits_value-take-le 10 ds (c.loop-digit.digit-index + 1) (omega arith) in
    subst (λ (o : Option ℕ). SomeIff o (digits_value 10 ds < 2 ^ 64) (digits_value 10 ds)) (sym c.from_residual.ensures)
    (λ small. c.in_err-checked_mul.ensures (omega (arith, h, b, i.sum)))

pub returns-in_err-value : goal.returns-in_err-value
returns-in_err-value c =
    let i = c.loop-digit.invariant in
    let ds = c.args.digits.now in
    let h = value_next ds c.loop-digit.digit-index c.loop-digit-test.true c.requires in
    let b = digits_value-take-le 10 ds (c.loop-digit.digit-index + 1) (omega arith) in
    subst (λ (o : Option ℕ). SomeIff o (digits_value 10 ds < 2 ^ 64) (digits_value 10 ds)) (sym c.from_residual-in_err-value.ensures)
    (λ small. c.in_err-value.ensures (omega (arith, h, b, i.sum, c.from.ensures, c.in_ok-checked_mul.ensures)))

pub returns : goal.returns
returns c =
    let i = c.loop-digit.invariant in
    let whole : digits_value 10 (take c.loop-digit.digit-index c.args.digits.now) ≡ digits_value 10 c.args.digits.now = ap (digits_value 10) (take_all c.loop-digit.digit-index c.args.digits.now c.loop-digit-test.false) in
    (omega (arith, i.sum, i.fits, whole), i.sum ∙ whole)

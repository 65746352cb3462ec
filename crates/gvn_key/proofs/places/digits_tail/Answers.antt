use Rattle.std.proofs.Common.{not, sym, ap, ◌∙◌, arith}
use Rattle.std.specs.Char.{is_ascii_digit}
use Rattle.gvn_key.proofs.Firsts.{first_found, none_found, one_more}
use Rattle.gvn_key.proofs.places.digits_tail.Goals as goal

pub loop-at-preserved : goal.loop-at-preserved
loop-at-preserved c = (one_more (λ b. not (is_ascii_digit b)) c.args.bytes.now c.loop-at.at c.loop-at.invariant.0 (ap not (sym c.is_ascii_digit.ensures.value ∙ c.if-not-is_ascii_digit.false)), omega arith)

pub returns-then-not-is_ascii_digit-clause-place : goal.returns-then-not-is_ascii_digit-clause-place
returns-then-not-is_ascii_digit-clause-place c = first_found (λ b. not (is_ascii_digit b)) c.args.bytes.now c.loop-at.at (omega arith) c.loop-at.invariant.0 (ap not (sym c.is_ascii_digit.ensures.value ∙ c.if-not-is_ascii_digit.true))

pub returns-clause-place : goal.returns-clause-place
returns-clause-place c = none_found (λ b. not (is_ascii_digit b)) c.args.bytes.now c.loop-at.at (omega arith) c.loop-at.invariant.0

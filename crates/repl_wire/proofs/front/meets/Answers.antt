use Rattle.std.proofs.Common.{arith}
use Rattle.std.proofs.lemmas.Bool.{leb-true, le-leb}
use Rattle.repl_wire.proofs.Digits.{below_quotient, above_quotient, is_below_quotient, is_above_quotient}
use Rattle.repl_wire.proofs.front.meets.Goals as goal

pub returns-then-value-high : goal.returns-then-value-high
returns-then-value-high c = (
  λ h. (below_quotient c.args.value c.args.unit c.args.high c.if-value-high.true, above_quotient c.args.value c.args.unit c.args.low c.requires (leb-true _ _ h)),
  λ h. le-leb _ _ (is_above_quotient c.args.value c.args.unit c.args.low c.requires h.1),
)

pub returns-else-value-high : goal.returns-else-value-high
returns-else-value-high c = (
  λ h. absurd (let past = leb-true _ _ h in omega arith),
  λ h. le-leb _ _ (is_below_quotient c.args.value c.args.unit c.args.high c.requires h.0),
)

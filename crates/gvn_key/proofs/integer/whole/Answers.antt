use Rattle.std.proofs.Common.{arith}
use Rattle.std.proofs.lemmas.Int.{ints}
use Rattle.gvn_key.proofs.DigitValues.{value_small}
use Rattle.gvn_key.proofs.integer.whole.Goals as goal

pub overflow_cast-result : goal.overflow_cast-result
overflow_cast-result c = omega (arith, ints, c.value.ensures.value, value_small c.args.digits.now 18 c.requires.digits c.requires.count)

pub returns-clause-value : goal.returns-clause-value
returns-clause-value c = omega (arith, ints, c.value.ensures.value, value_small c.args.digits.now 18 c.requires.digits c.requires.count)

pub returns-clause-bound : goal.returns-clause-bound
returns-clause-bound c = value_small c.args.digits.now 18 c.requires.digits c.requires.count

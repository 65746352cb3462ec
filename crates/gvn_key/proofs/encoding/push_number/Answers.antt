use Rattle.std.proofs.Common.{◌∙◌, sym}
use Rattle.gvn_key.proofs.Numbers.{minus_magnitude, plain_magnitude}
use Rattle.gvn_key.proofs.encoding.push_number.Goals as goal

pub push_magnitude-requires-clause-digits : goal.push_magnitude-requires-clause-digits
push_magnitude-requires-clause-digits c = (minus_magnitude c.args.numeral.now c.requires (sym c.starts_with.ensures.value ∙ c.if-starts_with.true)).0.digits

pub push_magnitude-requires-clause-few : goal.push_magnitude-requires-clause-few
push_magnitude-requires-clause-few c = (minus_magnitude c.args.numeral.now c.requires (sym c.starts_with.ensures.value ∙ c.if-starts_with.true)).0.few

pub push_magnitude-requires-else-starts_with-clause-digits : goal.push_magnitude-requires-else-starts_with-clause-digits
push_magnitude-requires-else-starts_with-clause-digits c = (plain_magnitude c.args.numeral.now c.requires (sym c.starts_with.ensures.value ∙ c.if-starts_with.false)).0.digits

pub push_magnitude-requires-else-starts_with-clause-few : goal.push_magnitude-requires-else-starts_with-clause-few
push_magnitude-requires-else-starts_with-clause-few c = (plain_magnitude c.args.numeral.now c.requires (sym c.starts_with.ensures.value ∙ c.if-starts_with.false)).0.few

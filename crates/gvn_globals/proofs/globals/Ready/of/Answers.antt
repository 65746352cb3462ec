use Rattle.std.proofs.Common.{◌∙◌}
use Rattle.gvn_globals.proofs.Coded.{is_coded_at}
use Rattle.gvn_globals.proofs.globals.Ready.of.Goals as goal

pub invariant_of-result : goal.invariant_of-result
invariant_of-result c = is_coded_at c.in_ok-code.code (record { key = c.in_ok-key.key; value = c.in_ok-value.value }) (c.in_ok-code.ensures ∙ c.code.ensures.value) c.code.ensures.valid

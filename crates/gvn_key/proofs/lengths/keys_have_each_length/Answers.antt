use Rattle.gvn_key.proofs.Taking.{code_length, each_length}
use Rattle.gvn_key.proofs.lengths.keys_have_each_length.Goals as goal

pub returns-clause-bounds : goal.returns-clause-bounds
returns-clause-bounds c = code_length

pub returns-clause-each : goal.returns-clause-each
returns-clause-each c = each_length

use Rattle.global_defs.proofs.KeyOrder.{key_ordered, key_injective, key_begins}
use Rattle.global_defs.proofs.encodings.encoded_keys_collate.Goals as goal

pub returns-clause-order : goal.returns-clause-order
returns-clause-order c = key_ordered

pub returns-clause-injective : goal.returns-clause-injective
returns-clause-injective c = key_injective

pub returns-clause-descendants : goal.returns-clause-descendants
returns-clause-descendants c = key_begins

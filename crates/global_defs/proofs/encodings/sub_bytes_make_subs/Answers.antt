use Rattle.global_defs.proofs.NumberText.{number_small}
use Rattle.global_defs.proofs.NumberValue.{value_text, sub_back}
use Rattle.global_defs.proofs.encodings.sub_bytes_make_subs.Goals as goal

pub returns-clause-value : goal.returns-clause-value
returns-clause-value c = λ x h. value_text x (number_small x h)

pub returns-clause-made : goal.returns-clause-made
returns-clause-made c = sub_back

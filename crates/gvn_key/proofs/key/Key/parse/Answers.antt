use Rattle.gvn_key.proofs.KeyTextLaws.{text_makes}
use Rattle.gvn_key.proofs.KeyTextWritten.{read_back}
use Rattle.gvn_key.proofs.KeyTextFound.{text_found}
use Rattle.gvn_key.proofs.key.Key.parse.Goals as goal

pub returns-clause-found : goal.returns-clause-found
returns-clause-found c = text_found c.args.text.now c.key_at.result c.key_at.ensures

pub returns-clause-only : goal.returns-clause-only
returns-clause-only c = λ name subs good t. text_makes c.args.text.now name subs c.key_at.result c.key_at.ensures good t

pub returns-clause-again : goal.returns-clause-again
returns-clause-again c = λ key valid small e. read_back c.args.text.now key c.key_at.result c.key_at.ensures valid small e

use Rattle.repl_words.proofs.AskLaws.{found, only}
use Rattle.repl_words.proofs.laws.words_are_read_as_asked.Goals as goal

pub returns : goal.returns
returns c = record { found = found; only = only }

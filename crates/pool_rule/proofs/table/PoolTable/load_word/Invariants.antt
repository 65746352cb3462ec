use Rattle.std.proofs.Common.{[]}
use Rattle.pool_rule.proofs.table.PoolTable.load_word.Given as goal

abbrev pub ghosts-load_word_as : goal.ghosts-load_word_as
ghosts-load_word_as a = record { bytes = []; at = a.at }

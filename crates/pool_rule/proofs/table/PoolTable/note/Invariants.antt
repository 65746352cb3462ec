use Rattle.std.proofs.Common.{[]}
use Rattle.pool_rule.proofs.table.PoolTable.note.Given as goal

abbrev pub ghosts-note_as : goal.ghosts-note_as
ghosts-note_as a = record { bytes = []; at = a._place }

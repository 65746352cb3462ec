use Rattle.std.proofs.Common.{◌≡◌, map, take}
use Rattle.entry_index.specs.Table.{sign_in_column}
use Rattle.entry_index.proofs.table.SignTable.fill.Given as goal

abbrev pub invariant-loop-column : goal.invariant-loop-column
invariant-loop-column l = l.row.items ≡ map (λ c. sign_in_column l.place c.items) (take l.column-index l.column-items)

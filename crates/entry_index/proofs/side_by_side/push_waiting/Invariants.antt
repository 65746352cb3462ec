use Rattle.std.proofs.Common.{true}
use Rattle.entry_index.specs.Table.{AddsRow}
use Rattle.entry_index.proofs.SideBySide.{row_of}
use Rattle.entry_index.proofs.side_by_side.push_waiting.Given as goal

abbrev pub invariant-loop-region : goal.invariant-loop-region
invariant-loop-region l = AddsRow (row_of l.number l.cursors) l.region true l.fn.places.items l.places.items

use Rattle.std.proofs.Common.{◌≡◌, ℕ, ◌+◌, ◌<◌, List, length, map, drop}
use Rattle.std.specs.Option.{option_or}
use Rattle.journal_defs.specs.Instance.{InstanceRecord}
use Rattle.journal_defs.specs.Sequence.{part_of}
use Rattle.jnl_record.specs.Values.{placed_value}
use Rattle.mupip_recover.specs.Cuts.{AreCuts}
use Rattle.mupip_recover.specs.Table.{part_in_column}
use Rattle.mupip_recover.proofs.table.column_of.Given as goal

abbrev pub invariant-loop-placed : goal.invariant-loop-placed
invariant-loop-placed l = record {
  many : length l.column.items ≡ l.places;
  each : (rs : List InstanceRecord) → AreCuts rs l.cuts → (i : ℕ) → i < l.places
      → option_or (part_of rs (i + 1) (map placed_value (drop l.placed-index l.journal))) (part_in_column i l.column.items) ≡ part_of rs (i + 1) (map placed_value l.journal);
}

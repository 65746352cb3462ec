use Rattle.std.proofs.Common.{◌≡◌, ℕ, ◌+◌, ◌<◌, List, length, drop}
use Rattle.std.specs.Option.{option_or}
use Rattle.journal_defs.specs.Instance.{InstanceRecord}
use Rattle.mupip_recover.specs.Cuts.{AreCuts}
use Rattle.entry_index.specs.Signs.{last_sign}
use Rattle.entry_index.specs.Table.{sign_in_column}
use Rattle.entry_index.proofs.table.column_of.Given as goal

abbrev pub invariant-loop-placed : goal.invariant-loop-placed
invariant-loop-placed l = record {
  many : length l.column.items ≡ l.places;
  each : (rs : List InstanceRecord) → AreCuts rs l.cuts → (i : ℕ) → i < l.places
      → option_or (last_sign rs (i + 1) (drop l.placed-index l.signs)) (sign_in_column i l.column.items) ≡ last_sign rs (i + 1) l.signs;
}

use Rattle.std.proofs.Common.{◌≡◌, ℕ, ◌+◌, ◌<◌, List, ◌++◌, length, map, drop}
use Rattle.journal_defs.specs.Instance.{InstanceRecord}
use Rattle.mupip_recover.specs.Cuts.{AreCuts}
use Rattle.entry_index.specs.Signs.{last_sign}
use Rattle.entry_index.specs.Table.{sign_in_column}
use Rattle.entry_index.proofs.table.SignTable.of.Given as goal

abbrev pub invariant-loop-region : goal.invariant-loop-region
invariant-loop-region l = record {
  many : length l.columns.items ≡ l.region-index;
  each : (rs : List InstanceRecord) → AreCuts rs l.cuts → (i : ℕ) → i < l.places
      → map (λ c. sign_in_column i c.items) l.columns.items ++ map (λ s. last_sign rs (i + 1) s.items) (drop l.region-index l.signs)
      ≡ map (λ s. last_sign rs (i + 1) s.items) l.signs;
}

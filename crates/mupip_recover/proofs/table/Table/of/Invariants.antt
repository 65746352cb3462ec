use Rattle.std.proofs.Common.{◌≡◌, ℕ, ◌+◌, ◌<◌, List, ◌++◌, map, drop}
use Rattle.journal_defs.specs.Instance.{InstanceRecord}
use Rattle.journal_defs.specs.Sequence.{part_of}
use Rattle.jnl_record.specs.Values.{placed_value}
use Rattle.mupip_recover.specs.Cuts.{AreCuts}
use Rattle.mupip_recover.specs.Table.{part_in_column}
use Rattle.mupip_recover.proofs.table.Table.of.Given as goal

abbrev pub invariant-loop-journal : goal.invariant-loop-journal
invariant-loop-journal l = (rs : List InstanceRecord) → AreCuts rs l.cuts → (i : ℕ) → i < l.places
    → map (λ c. part_in_column i c.items) l.columns.items ++ map (λ j. part_of rs (i + 1) (map placed_value j.items)) (drop l.journal-index l.journals)
    ≡ map (λ j. part_of rs (i + 1) (map placed_value j.items)) l.journals

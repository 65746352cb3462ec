use Rattle.std.proofs.Common.{◌≡◌, drop}
use Rattle.std.specs.List.{list_all}
use Rattle.journal_defs.specs.Sequence.{REGIONS}
use Rattle.entry_index.specs.Completing.{agrees_by_sign}
use Rattle.entry_index.specs.Table.{row_sign}
use Rattle.entry_index.proofs.completing.all_agree.Given as goal

abbrev pub invariant-loop-region : goal.invariant-loop-region
invariant-loop-region l =
    list_all (λ r. agrees_by_sign l.head (row_sign l.row r) r) REGIONS ≡ list_all (λ r. agrees_by_sign l.head (row_sign l.row r) r) (drop l.region REGIONS)

use Rattle.std.proofs.Common.{◌≡◌, drop}
use Rattle.global_defs.specs.Entry.{Stamp}
use Rattle.journal_defs.specs.Sequence.{REGIONS, entry_among}
use Rattle.mupip_recover.specs.Table.{part_at}
use Rattle.mupip_recover.proofs.completing.transaction_at.Given as goal

abbrev pub invariant-loop-region : goal.invariant-loop-region
invariant-loop-region l = (stamp : Stamp) → entry_among (part_at l.table l.place) stamp REGIONS ≡ entry_among (part_at l.table l.place) stamp (drop l.region REGIONS)

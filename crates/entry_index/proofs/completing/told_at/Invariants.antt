use Rattle.std.proofs.Common.{◌≡◌, ℕ, drop, Option}
use Rattle.disk_defs.specs.Disk.{Files}
use Rattle.global_defs.specs.Entry.{Stamp}
use Rattle.journal_defs.specs.Journal.{Part}
use Rattle.journal_defs.specs.Sequence.{REGIONS, entry_among}
use Rattle.entry_index.specs.Table.{AreSigned}
use Rattle.entry_index.proofs.completing.told_at.Given as goal

abbrev pub invariant-loop-region : goal.invariant-loop-region
invariant-loop-region l = (files : Files) (n : ℕ) (part : ℕ → Option Part) → AreSigned files l.row n part → (stamp : Stamp)
    → entry_among part stamp REGIONS ≡ entry_among part stamp (drop l.region REGIONS)

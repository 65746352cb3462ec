-- Entries out of a table of parts.
use Rattle.std.specs.Prelude.{◌≡◌, ℕ, ◌-◌, ◌<◌, ◌≤◌, suc, List, length, Option, None}
use Rattle.std.specs.Option.{option_and_then}
use Rattle.global_defs.specs.Entry as defs
use Rattle.global_defs.specs.Entry.{Stamp, Reign, Sequence}
use Rattle.global_defs.specs.Prefix.{stamp_at}
use Rattle.journal_defs.specs.Journal.{Part}
use Rattle.journal_defs.specs.Sequence.{entry_by, entry_with, EntriesFrom}
use Rattle.gvn_model.specs.declared.entry.Transaction.{Transaction}
use Rattle.gvn_model.specs.Entries.{transaction_value}
use Rattle.mupip_recover.specs.Table.{part_at}
use Rattle.mupip_recover.specs.declared.table.Table.{Table}

-- the entry that is complete by the part of a region
abbrev pub entry_in : (ℕ → Option Part) → Stamp → ℕ → Option defs.Entry
entry_in part stamp r = option_and_then (λ p. entry_by part stamp p) (part r)

-- the entry of a transaction under a stamp
abbrev pub stamped : Stamp → Transaction → defs.Entry
stamped stamp t = record { stamp = stamp; transaction = transaction_value t }

-- the entry of a number, where it is complete and has a stamp
abbrev pub entry_at : Table → List Reign → ℕ → Option defs.Entry
entry_at t reigns n = entry_with (part_at t (n - 1)) (stamp_at n reigns)

-- These are the first entries of a table of so many places: all of them, or those before one that isn't complete.
pub record AreFirst (t : Table) (reigns : List Reign) (places : ℕ) (seq : Sequence) : Type 0 where
  pub each : EntriesFrom (entry_at t reigns) 1 seq
  pub within : length seq ≤ places
  pub ended : length seq < places → entry_at t reigns (suc (length seq)) ≡ None

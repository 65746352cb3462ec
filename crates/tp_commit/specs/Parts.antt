-- The records of a transaction as an entry, one a region that has a part of it.
use Rattle.std.specs.Prelude.{ℕ, ◌≤◌, nat_lt, List, length, get_or, Option, Some, None, [], option_map}
use Rattle.global_defs.specs.declared.limits.TheConstants.{LONGEST_BODY}
use Rattle.global_defs.specs.Entry.{Item}
use Rattle.journal_defs.specs.Journal.{JournalRecord, Tcom, Part, IsInForm, spelled_record}
use Rattle.journal_defs.specs.Sequence.{REGIONS}
use Rattle.journal_defs.specs.Split.{mask_with}
use Rattle.jnl_record.specs.declared.record.JnlRecord.{JnlRecord}
use Rattle.jnl_record.specs.Values.{record_value, IsFirstVersion}

-- which regions have a part, and the records by region, where it has one: behind the list there is none
pub record PartRecords : Type 0 where
  pub mask : ℕ
  pub records : List (Option JournalRecord)

-- the record of a part
abbrev pub recorded : Option Part → Option JournalRecord
recorded part = option_map (λ p. Tcom p) part

-- the regions whose lists have an item, as a mask
abbrev pub mask_by : List (List Item) → ℕ
mask_by lists = mask_with (λ r. nat_lt 0 (length (get_or lists r []))) REGIONS

-- a record that a journal can take
abbrev pub IsReady : Option JnlRecord → Type 0
IsReady None = Unit {0}
IsReady (Some x) = IsInForm (record_value x) × IsFirstVersion x × (length (spelled_record (record_value x)) ≤ LONGEST_BODY)

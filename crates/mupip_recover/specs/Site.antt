-- The records of a site as the code has them: those of its instance file, and a list for each region.
use Rattle.std.specs.Prelude.{ℕ, List, [], map, get_or}
use Rattle.std.specs.List.{AllByRecursion}
use Rattle.journal_defs.specs.Instance.{InstanceRecord}
use Rattle.journal_defs.specs.Journal.{IsInForm}
use Rattle.journal_defs.specs.Sequence.{Placed, Records}
use Rattle.jnl_record.specs.declared.placed.PlacedRecord.{PlacedRecord}
use Rattle.jnl_record.specs.Values.{placed_value, record_value}

-- each record of a journal has its form
abbrev pub AreInForm : List PlacedRecord → Type 0
AreInForm ps = AllByRecursion (λ p. IsInForm (record_value p.what)) ps

-- the records of each region; those past the last list have none
abbrev pub journal_of : List (List PlacedRecord) → ℕ → List Placed
journal_of journals r = map placed_value (get_or journals r [])

abbrev pub site_records : List InstanceRecord → List (List PlacedRecord) → Records
site_records instance journals = record { instance = instance; journal = journal_of journals }

-- Parts by number and region.
use Rattle.std.specs.Prelude.{◌≡◌, ℕ, ◌+◌, ◌<◌, List, map, length, get_or, Option, None}
use Rattle.std.specs.Option.{option_map}
use Rattle.journal_defs.specs.Journal as journal
use Rattle.journal_defs.specs.Instance.{InstanceRecord}
use Rattle.journal_defs.specs.Sequence.{Placed, part_of}
use Rattle.mupip_recover.specs.Parts.{part_value}
use Rattle.mupip_recover.specs.declared.part.Part.{Part}
use Rattle.mupip_recover.specs.declared.table.Table.{Table}

-- the part at a place of a region's column
abbrev pub part_in_column : ℕ → List (Option Part) → Option journal.Part
part_in_column i column = option_map part_value (get_or column i None)

-- the part at a place of a region
abbrev pub part_at : Table → ℕ → ℕ → Option journal.Part
part_at t i r = get_or (map (λ c. part_in_column i c.items) t.columns.items) r None

-- The column has the last surviving parts of these records at its places, of which the first stands for number 1.
pub record IsColumn (instance : List InstanceRecord) (places : ℕ) (journal : List Placed) (column : List (Option Part)) : Type 0 where
  pub many : length column ≡ places
  pub each : (i : ℕ) → i < places → part_in_column i column ≡ part_of instance (i + 1) journal

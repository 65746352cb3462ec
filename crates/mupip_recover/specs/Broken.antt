-- The broken list of a region, and texts that grow by one.
use Rattle.std.specs.Prelude.{◌≡◌, ℕ, List, ◌++◌, map}
use Rattle.std.specs.List.{flat_map, enumerate_from}
use Rattle.global_defs.specs.Region.{Region}
use Rattle.journal_defs.specs.Instance.{InstanceRecord}
use Rattle.journal_defs.specs.Sequence.{Placed}
use Rattle.journal_defs.specs.Broken.{BrokenPart, parts_past, broken_text}
use Rattle.jnl_record.specs.declared.placed.PlacedRecord.{PlacedRecord}
use Rattle.mupip_recover.specs.Site.{journal_of}
use Rattle.mupip_recover.specs.Parts.{part_value}
use Rattle.mupip_recover.specs.declared.part.Part.{Part}

abbrev pub broken_value : List ℕ → Part → BrokenPart
broken_value region p = record { region = region; part = part_value p }

-- the broken list of a region with this name and these records
abbrev pub broken_in : List InstanceRecord → ℕ → List ℕ → List Placed → List BrokenPart
broken_in instance length region journal = map (λ p. record { region = region; part = p }) (parts_past instance length journal)

-- A text that was that of a broken list becomes that of the list with more behind it.
abbrev pub Adds : List ℕ → ℕ → List BrokenPart → List ℕ → List ℕ → Type 0
Adds site length more old new = (items : List BrokenPart) → old ≡ broken_text site length items → new ≡ broken_text site length (items ++ more)

-- the broken list of these regions
abbrev pub broken_of : List InstanceRecord → ℕ → List (List PlacedRecord) → List Region → List BrokenPart
broken_of instance length journals regions = flat_map (λ r. broken_in instance length r.1.name (journal_of journals r.0)) (enumerate_from 0 regions)

-- Images among records.
use Rattle.std.specs.Prelude.{List, [], ◌∷◌}
use Rattle.std.specs.List.{flat_map}
use Rattle.journal_defs.specs.Journal.{JournalRecord, Pini, Epoch, Pblk, Tcom, Before}
use Rattle.jnl_record.specs.Values.{record_value}
use Rattle.jnl_record.specs.declared.placed.PlacedRecord.{PlacedRecord}

-- the image that a record is, if it's one
abbrev pub image_in : JournalRecord → List Before
image_in (Pblk i) = i ∷ []
image_in (Pini s) = []
image_in (Epoch m) = []
image_in (Tcom p) = []

-- the images among these records
abbrev pub images_in : List PlacedRecord → List Before
images_in ps = flat_map (λ p. image_in (record_value p.what)) ps

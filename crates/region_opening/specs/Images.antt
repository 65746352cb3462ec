-- Images among records.
use Rattle.std.specs.Prelude.{Bool, true, false, List, filter}
use Rattle.journal_defs.specs.Journal.{JournalRecord, Pini, Epoch, Pblk, Tcom}
use Rattle.journal_defs.specs.Sequence.{Placed}

-- the record is the image of a block
abbrev pub is_image : JournalRecord → Bool
is_image (Pblk i) = true
is_image (Pini s) = false
is_image (Epoch m) = false
is_image (Tcom p) = false

-- the images among these records, in their order
abbrev pub images_in : List Placed → List Placed
images_in journal = filter (λ p. is_image p.what) journal

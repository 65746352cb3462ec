-- Images that wait for a journal, as records.
use Rattle.std.specs.Prelude.{◌≡◌, List, [], ◌∷◌, map}
use Rattle.std.specs.List.{AllByRecursion, flat_map}
use Rattle.journal_defs.specs.Journal.{JournalRecord, Pini, Epoch, Pblk, Tcom, Before}
use Rattle.jnl_record.specs.declared.record.JnlRecord.{JnlRecord}
use Rattle.jnl_record.specs.Values.{record_value}
use Rattle.region_journals.specs.Logging.{MayBeAppended}
use Rattle.region_epochs.specs.Kept.{image_records}
use Rattle.region_epochs.specs.declared.images.Images.TheInside.{Inside}

-- the image that a record is, if it's one
abbrev pub image_in : JournalRecord → List Before
image_in (Pblk i) = i ∷ []
image_in (Pini s) = []
image_in (Epoch m) = []
image_in (Tcom p) = []

abbrev pub logged_in : List JnlRecord → List Before
logged_in rs = flat_map (λ r. image_in (record_value r)) rs

abbrev pub images_of : Inside → List Before
images_of i = logged_in i.records.items

-- each record is an image that a journal can take
pub record AreImages (i : Inside) : Type 0 where
  pub are : map record_value i.records.items ≡ image_records (images_of i)
  pub may_be : AllByRecursion MayBeAppended i.records.items

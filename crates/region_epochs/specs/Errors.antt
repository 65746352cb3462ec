-- What the layers below answer, as an epoch answers it.
use Rattle.jnl_file.specs.declared.error.JournalError.{JournalError}
use Rattle.jnl_file.specs.declared.error.JournalError.TheVariants as of_journal
use Rattle.region_store.specs.declared.error.RegionError.{RegionError}
use Rattle.region_store.specs.declared.error.RegionError.TheVariants as of_region
use Rattle.region_epochs.specs.declared.error.EpochError.{EpochError}
use Rattle.region_epochs.specs.declared.error.EpochError.TheVariants.{Failed, NoMemory}

-- a journal that is appended to answers no NotARecord
abbrev pub from_journal : JournalError → EpochError
from_journal of_journal.Failed = Failed
from_journal (of_journal.NotARecord offset) = Failed
from_journal of_journal.NoMemory = NoMemory

-- a region that is open answers no NotAFile
abbrev pub from_region : RegionError → EpochError
from_region (of_region.Failed fault) = Failed
from_region (of_region.NotAFile file offset) = Failed
from_region of_region.NoMemory = NoMemory

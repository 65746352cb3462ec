-- What the layers below answer, as a site answers it on a disk with this count of faults.
use Rattle.std.specs.Prelude.{ℕ}
use Rattle.instance_file.specs.declared.error.InstanceError.{InstanceError}
use Rattle.instance_file.specs.declared.error.InstanceError.TheVariants as instances
use Rattle.jnl_file.specs.declared.error.JournalError.{JournalError}
use Rattle.jnl_file.specs.declared.error.JournalError.TheVariants as journals
use Rattle.jnl_file.specs.declared.error.GenerationsError.{GenerationsError}
use Rattle.jnl_file.specs.declared.error.GenerationsError.TheVariants as generations
use Rattle.entry_index.specs.declared.error.IndexError.{IndexError}
use Rattle.entry_index.specs.declared.error.IndexError.TheVariants as indexes
use Rattle.site_files.specs.declared.error.FilesError.{FilesError}
use Rattle.site_files.specs.declared.error.FilesError.TheVariants as error

abbrev pub instance_error : ℕ → InstanceError → FilesError
instance_error fault instances.Failed = error.Failed fault
instance_error fault (instances.NotARecord offset) = error.NotAFile 0 offset
instance_error fault instances.NoMemory = error.NoMemory

abbrev pub generations_error : ℕ → GenerationsError → FilesError
generations_error fault generations.Failed = error.Failed fault
generations_error fault (generations.NotAFile file offset) = error.NotAFile file offset
generations_error fault generations.NoMemory = error.NoMemory

-- where it is made, it's no file that is read
abbrev pub journal_error : ℕ → JournalError → FilesError
journal_error fault journals.Failed = error.Failed fault
journal_error fault (journals.NotARecord offset) = error.NoMemory
journal_error fault journals.NoMemory = error.NoMemory

-- where a record of this file is read again
abbrev pub placed_error : ℕ → ℕ → JournalError → FilesError
placed_error fault file journals.Failed = error.Failed fault
placed_error fault file (journals.NotARecord offset) = error.NotAFile file offset
placed_error fault file journals.NoMemory = error.NoMemory

abbrev pub index_error : ℕ → IndexError → FilesError
index_error fault indexes.Failed = error.Failed fault
index_error fault (indexes.NotAFile file offset) = error.NotAFile file offset
index_error fault indexes.NoMemory = error.NoMemory

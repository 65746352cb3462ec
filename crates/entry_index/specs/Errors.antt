-- What reading a journal answers, as an index answers it.
use Rattle.std.specs.Prelude.{ℕ}
use Rattle.jnl_file.specs.declared.error.JournalError.{JournalError}
use Rattle.jnl_file.specs.declared.error.JournalError.TheVariants.{Failed, NotARecord, NoMemory}
use Rattle.entry_index.specs.declared.error.IndexError.{IndexError}
use Rattle.entry_index.specs.declared.error.IndexError.TheVariants as index

-- with the number of the file
abbrev pub error_in : ℕ → JournalError → IndexError
error_in file Failed = index.Failed
error_in file (NotARecord offset) = index.NotAFile file offset
error_in file NoMemory = index.NoMemory

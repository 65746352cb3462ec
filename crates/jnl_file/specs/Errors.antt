-- What the layers below answer, as a journal answers it.
use Rattle.std.specs.Prelude.{ℕ}
use Rattle.gated_file.specs.declared.error.GateError.{GateError}
use Rattle.gated_file.specs.declared.error.GateError.TheVariants.{Failed, NotARecord, NoMemory}
use Rattle.jnl_record.specs.declared.record.RecordError.{RecordError}
use Rattle.jnl_record.specs.declared.record.RecordError.TheVariants.{NotARecord as NoRecord, NoMemory as NoRoom}
use Rattle.jnl_file.specs.declared.error.JournalError.{JournalError}
use Rattle.jnl_file.specs.declared.error.JournalError.TheVariants as error
use Rattle.jnl_file.specs.declared.error.GenerationsError.{GenerationsError}
use Rattle.jnl_file.specs.declared.error.GenerationsError.TheVariants as reading

abbrev pub gate_error : GateError → JournalError
gate_error Failed = error.Failed
gate_error (NotARecord offset) = error.NotARecord offset
gate_error NoMemory = error.NoMemory

abbrev pub record_error : RecordError → JournalError
record_error (NoRecord offset) = error.NotARecord offset
record_error NoRoom = error.NoMemory

-- what a journal answers, with the number of its file
abbrev pub error_in : ℕ → JournalError → GenerationsError
error_in file error.Failed = reading.Failed
error_in file (error.NotARecord offset) = reading.NotAFile file offset
error_in file error.NoMemory = reading.NoMemory

-- What a good line of a section is to the code.
use Rattle.std.specs.Prelude.{◌≡◌, ℕ, ◌+◌, Bool, true, false, [], ◌∷◌, ◌++◌, Option, Some, None}
use Rattle.std.specs.declared.result.Result.{Result}
use Rattle.std.specs.declared.result.Result.TheVariants.{Ok, Err}
use Rattle.gvn_key.specs.Terms.{statement_value}
use Rattle.gvn_key.specs.ZwrText.{told}
use Rattle.script_defs.specs.Parts as texts
use Rattle.command_defs.specs.Commands.{Run}
use Rattle.command_defs.specs.Sections.{Section, is_open, jobs_of, last_job, transaction_begun, transaction_ended, with_statement}
use Rattle.command_defs.specs.Updaters.{is_updater, is_of_size}
use Rattle.command_defs.specs.Script.{Reading, Wrong, Goes, Ends, Within}
use Rattle.repl_script.specs.Reads.{fault_value}
use Rattle.repl_script.specs.declared.fault.Fault.{Fault}
use Rattle.repl_script.specs.declared.section.Entry.{Entry}
use Rattle.repl_script.specs.declared.section.Entry.TheVariants as entries

abbrev pub entry_reading : Section → Entry → Reading
entry_reading s (entries.Begin u) = Goes (Within (transaction_begun s u))
entry_reading s (entries.Commit u) = Goes (Within (transaction_ended s u))
entry_reading s (entries.Statement u statement) = Goes (Within (with_statement s u (statement_value statement)))
entry_reading s entries.End = Ends (Run s.name s.jobs s.order)

-- a line is bad at the column that a fault tells, unless memory ran out
abbrev pub TellsWrong : Option ℕ → Reading → Type 0
TellsWrong None reading = Unit {0}
TellsWrong (Some at) reading = reading ≡ Wrong at

abbrev pub ReadsEntry : Section → Reading → Result Entry Fault → Type 0
ReadsEntry s reading (Ok entry) = reading ≡ entry_reading s entry
ReadsEntry s reading (Err fault) = TellsWrong (fault_value fault) reading

-- the column of a statement's fault in the line, by the place of its part in the statement
abbrev pub located : ℕ → Option texts.Fault → Option ℕ
located at None = None
located at (Some fault) = Some (told (at + fault.part))

-- the updater is one of the section, and an open transaction stays within its limits
abbrev pub IsAllowed : Section → Entry → Type 0
IsAllowed s (entries.Begin u) = is_updater u ≡ true
IsAllowed s (entries.Commit u) = is_updater u ≡ true
IsAllowed s (entries.Statement u statement) = (is_updater u ≡ true) × (is_open s u ≡ true → is_of_size (last_job (jobs_of s u) ++ statement_value statement ∷ []) ≡ true)
IsAllowed s entries.End = Unit {0}

-- The line of a section was taken, so that the section goes on so or ends with it, or it wasn't.
abbrev pub FeedsSection : Section → Section → Reading → Result Bool Fault → Type 0
FeedsSection old new reading (Ok false) = reading ≡ Goes (Within new)
FeedsSection old new reading (Ok true) = (reading ≡ Ends (Run old.name old.jobs old.order)) × (new ≡ old)
FeedsSection old new reading (Err fault) = TellsWrong (fault_value fault) reading × (new ≡ old)

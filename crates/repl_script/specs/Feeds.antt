-- How far a script was read, and what one line more does.
use Rattle.std.specs.Prelude.{◌≡◌, ℕ, ◌+◌, List, Option, Some, None}
use Rattle.std.specs.declared.result.Result.{Result}
use Rattle.std.specs.declared.result.Result.TheVariants.{Ok, Err}
use Rattle.command_defs.specs.Sections.{Section}
use Rattle.command_defs.specs.Script.{Position, Outside, Within, Reading, Skips, Wrong, Goes, Ends, line_reading}
use Rattle.repl_script.specs.Commands.{command_value}
use Rattle.repl_script.specs.Reads.{fault_value}
use Rattle.repl_script.specs.Entries.{TellsWrong}
use Rattle.repl_script.specs.declared.command.Command.{Command}
use Rattle.repl_script.specs.declared.fault.Fault.{Fault}
use Rattle.repl_script.specs.declared.error.ScriptError.{ScriptError}
use Rattle.repl_script.specs.declared.error.ScriptError.TheVariants.{BadLine, ScriptTooLong, NoMemory}

-- where the next line stands, and how many lines were taken
pub record Progress : Type 0 where
  pub position : Position
  pub lines : ℕ

abbrev pub position_of : Option Section → Position
position_of None = Outside
position_of (Some s) = Within s

-- the line is ignored and the position stays, or it's taken, ends no command and leads to this position
abbrev pub Moves : Position → Position → Reading → Type 0
Moves old new Skips = new ≡ old
Moves old new (Wrong at) = ⊥
Moves old new (Goes position) = new ≡ position
Moves old new (Ends command) = ⊥

-- what one line, not counted, does
abbrev pub Feeds : Position → Position → Reading → Result (Option Command) Fault → Type 0
Feeds old new reading (Ok None) = Moves old new reading
Feeds old new reading (Ok (Some command)) = (reading ≡ Ends (command_value command)) × (new ≡ Outside)
Feeds old new reading (Err fault) = TellsWrong (fault_value fault) reading

-- an error names the next line, and the column at which it is bad
abbrev pub TellsBad : ScriptError → Progress → List ℕ → Type 0
TellsBad (BadLine line at) old text = (line ≡ old.lines + 1) × (line_reading old.position text ≡ Wrong at)
TellsBad ScriptTooLong old text = Unit {0}
TellsBad NoMemory old text = Unit {0}

-- a script may end between commands; in a section the line after the last is bad
abbrev pub EndsAs : {X : Type 0} → Position → ℕ → X → Result X ScriptError → Type 0
EndsAs Outside lines done result = result ≡ Ok done
EndsAs (Within s) lines done result = result ≡ Err (BadLine (lines + 1) 1)

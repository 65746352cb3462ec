-- The lines of a script: what a line is where it stands, and what lines come to.
use Rattle.std.specs.Prelude.{◌≡◌, ◌≤◌, ℕ, ◌+◌, ◌==◌, List, [], ◌∷◌, ◌++◌, length, take, drop, nat_lt, fold, Option, Some, None, codes, slice_get, if◌then◌else◌}
use Rattle.std.specs.List.{list_any}
use Rattle.std.specs.Str.{bytes_eq}
use Rattle.std.specs.declared.result.Result.{Result}
use Rattle.std.specs.declared.result.Result.TheVariants.{Ok, Err}
use Rattle.global_defs.specs.declared.limits.TheConstants.{LONGEST_LINE, MOST_LINES}
use Rattle.global_defs.specs.Jobs.{Statement}
use Rattle.gvn_key.specs.ZwrText.{told}
use Rattle.script_defs.specs.Parts.{Fault, word_end, without_spaces}
use Rattle.script_defs.specs.Statements.{statement_reading}
use Rattle.command_defs.specs.Commands.{Name, Command, Run, command_by, run_reading}
use Rattle.command_defs.specs.Parts.{column, taken, ended, number_form, trimmed}
use Rattle.command_defs.specs.Sections.{Section, begun, is_open, is_full, transaction_begun, transaction_ended, with_statement}
use Rattle.command_defs.specs.Updaters.{UPDATERS}

-- between commands, or in a section
pub data Position : Type 0 where
  Outside : Position
  Within : Section → Position

-- What a line is at a position.
pub data Reading : Type 0 where
  -- it's ignored
  Skips : Reading
  -- it's bad at that column
  Wrong : (at : ℕ) → Reading
  -- it's taken, and no command ends with it
  Goes : Position → Reading
  -- a command is whole, so that what follows stands between commands
  Ends : Command → Reading

abbrev pub ending : Result Command ℕ → Reading
ending (Ok command) = Ends command
ending (Err at) = Wrong at

abbrev pub within : Result Section ℕ → Reading
within (Ok section) = Goes (Within section)
within (Err at) = Wrong at

abbrev pub beginning : Result Name ℕ → Reading
beginning (Ok name) = Goes (Within (begun name))
beginning (Err at) = Wrong at

-- a line between commands, by its first word
abbrev pub outside_by : (word : List ℕ) (len : ℕ) (left behind : List ℕ) → Reading
outside_by word len left behind = if bytes_eq word (codes "RUN") then beginning (run_reading len behind) else ending (command_by word len left behind)

abbrev pub outside_reading : ℕ → List ℕ → Reading
outside_reading len left = outside_by (take (word_end left) left) len left (without_spaces (drop (word_end left) left))

-- END, which is bad as a whole while a transaction is open
abbrev pub end_reading : Section → ℕ → List ℕ → Reading
end_reading s len behind = if list_any (λ b. b) s.opened then Wrong 1 else ending (ended len behind (Run s.name s.jobs s.order))

-- a statement's fault, by the place of its part in the statement
abbrev pub stated : Section → ℕ → (at : ℕ) → Result Statement Fault → Reading
stated s u at (Ok statement) = Goes (Within (with_statement s u statement))
stated s u at (Err fault) = Wrong (told (at + fault.part))

-- what stands behind an updater's number, by its first word
abbrev pub job_by : Section → ℕ → (word : List ℕ) (len : ℕ) (left behind : List ℕ) → Reading
job_by s u word len left behind = if bytes_eq word (codes "TSTART") then (if is_open s u then Wrong (column len left) else within (ended len behind (transaction_begun s u)))
    else if bytes_eq word (codes "TCOMMIT") then (if is_open s u then within (ended len behind (transaction_ended s u)) else Wrong (column len left))
    else if is_full s u word then Wrong (column len left)
    else stated s u (column len left) (statement_reading left)

abbrev pub job_reading : Section → ℕ → Result (ℕ × List ℕ) ℕ → Reading
job_reading s len (Err at) = Wrong at
job_reading s len (Ok p) = job_by s p.0 (take (word_end p.1) p.1) len p.1 (without_spaces (drop (word_end p.1) p.1))

-- a line of a section
abbrev pub section_reading : Section → ℕ → List ℕ → Reading
section_reading s len left = if bytes_eq (take (word_end left) left) (codes "END") then end_reading s len (without_spaces (drop (word_end left) left))
    else job_reading s len (taken (number_form 1 UPDATERS) len left)

abbrev pub reading_at : Position → ℕ → List ℕ → Reading
reading_at Outside len left = outside_reading len left
reading_at (Within s) len left = section_reading s len left

-- an empty line and one that begins with a semicolon are ignored
abbrev pub text_reading : Position → ℕ → List ℕ → Reading
text_reading position len [] = Skips
text_reading position len (b ∷ bs) = if b == 59 then Skips else reading_at position len (b ∷ bs)

-- a line without its line feed
abbrev pub line_reading : Position → List ℕ → Reading
line_reading position line = if nat_lt LONGEST_LINE (length line) then Wrong (LONGEST_LINE + 1)
    else text_reading position (length (trimmed line)) (without_spaces (trimmed line))

-- what whole lines come to: the commands that are whole, and where the next line stands
pub record Lines : Type 0 where
  pub commands : List Command
  pub position : Position

abbrev pub gone_on : Lines → Reading → Option Lines
gone_on l Skips = Some l
gone_on l (Wrong at) = None
gone_on l (Goes position) = Some (record l { position = position })
gone_on l (Ends command) = Some (record { commands = l.commands ++ command ∷ []; position = Outside })

-- lines and one more
abbrev pub then_line : Option Lines → List ℕ → Option Lines
then_line None line = None
then_line (Some l) line = gone_on l (line_reading l.position line)

-- nothing where a line is bad
abbrev pub lines_reading : List (List ℕ) → Option Lines
lines_reading lines = fold then_line (Some (record { commands = []; position = Outside })) lines

-- a script: each line is in the grammar, no section is open, and the lines aren't too many
pub record IsScript (lines : List (List ℕ)) : Type 0 where
  pub read : Lines
  pub reads : lines_reading lines ≡ Some read
  pub closed : read.position ≡ Outside
  pub count : length lines ≤ MOST_LINES

-- The line of that number is the first that is outside the grammar, at that column.
pub data IsBadAt : (lines : List (List ℕ)) (n at : ℕ) → Type 0 where
  -- the lines before it are in the grammar, and no script has it there
  in_line : {lines : List (List ℕ)} (n : ℕ) {line : List ℕ} {at : ℕ} (before : Lines) → n + 1 ≤ MOST_LINES → slice_get lines n ≡ Some line
      → lines_reading (take n lines) ≡ Some before → line_reading before.position line ≡ Wrong at → IsBadAt lines (n + 1) at
  -- all lines are in the grammar, and the last section lacks its END
  behind_all : {lines : List (List ℕ)} (all : Lines) (s : Section) → length lines ≤ MOST_LINES → lines_reading lines ≡ Some all → all.position ≡ Within s → IsBadAt lines (length lines + 1) 1

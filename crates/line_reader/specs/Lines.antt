-- Lines of a source.
use Rattle.std.specs.Prelude.{◌≡◌, ℕ, ◌+◌, ◌<◌, ◌≤◌, ◌==◌, true, false, Bool, List, [], ◌∷◌, ◌++◌, length, take, get_or, Option}
use Rattle.std.specs.List.{list_any}
use Rattle.std.specs.Io.KnownBytes.{Consumes, IsAtEnd, prepend_known}
use Rattle.std.specs.declared.result.Result.{Result}
use Rattle.std.specs.declared.result.Result.TheVariants.{Err}
use Rattle.global_defs.specs.declared.limits.TheConstants.{LONGEST_LINE}
use Rattle.global_defs.specs.Counts.{Rose}
use Rattle.line_reader.specs.Ahead.{Ahead}
use Rattle.line_reader.specs.declared.line.LineEnd.{LineEnd}
use Rattle.line_reader.specs.declared.line.LineEnd.TheVariants.{Feed, Input, Nothing, TooLong}
use Rattle.line_reader.specs.declared.line.LineError.{LineError}
use Rattle.line_reader.specs.declared.line.LineError.TheVariants.{Failed}

-- what is left to take: what was read ahead, and then what the source has
abbrev pub left_behind : Ahead → Option (List ℕ) → Option (List ℕ)
left_behind a source = prepend_known a.bytes source

-- These bytes were taken; some were read for that, and what is left of the room is less by these.
pub record Takes (old new : Ahead) (before now : Option (List ℕ)) (bytes : List ℕ) : Type 0 where
  pub taken : Consumes (left_behind old before) (left_behind new now) bytes
  pub read : List ℕ
  pub source : Consumes before now read
  pub room : new.room + length read ≡ old.room
  pub count : length old.bytes + length read ≡ length bytes + length new.bytes

-- bytes of one line
abbrev pub IsPiece : List ℕ → Type 0
IsPiece bytes = list_any (λ b. b == 10) bytes ≡ false

-- what was taken for a line: its bytes and a line feed, bytes up to the end, nothing, or too many bytes
abbrev pub EndsLine : LineEnd → List ℕ → Option (List ℕ) → Option (List ℕ) → Type 0
EndsLine Feed line old new = Consumes old new (line ++ 10 ∷ []) × (length line ≤ LONGEST_LINE)
EndsLine Input line old new = Consumes old new line × IsAtEnd new × (0 < length line) × (length line ≤ LONGEST_LINE)
EndsLine Nothing line old new = Consumes old new [] × IsAtEnd new
EndsLine TooLong line old new = Consumes old new line × (length line ≡ 4097)

-- the count never falls, and a fault is answered only where it rose
pub record LineCause (before now : ℕ) (result : Result LineEnd LineError) : Type 0 where
  pub later : before ≤ now
  pub failed : result ≡ Err Failed → Rose before now

-- the piece and its line feed were taken of these bytes, or some bytes without one
abbrev pub MovesTo : Bool → List ℕ → List ℕ → List ℕ → Type 0
MovesTo true old new piece = old ≡ piece ++ 10 ∷ new
MovesTo false old new piece = (old ≡ piece ++ new) × (0 < length piece)

-- A piece of a line was moved to its end: up to a line feed, which was taken too, or some bytes of what was read.
pub record Moves (fed : Bool) (old new line_old line_new : List ℕ) : Type 0 where
  pub piece : List ℕ
  pub line : line_new ≡ line_old ++ piece
  pub plain : IsPiece piece
  pub rest : MovesTo fed old new piece

-- the first line feed of these bytes stands there
pub record IsFeedAt (bytes : List ℕ) (i : ℕ) : Type 0 where
  pub inside : i < length bytes
  pub before : IsPiece (take i bytes)
  pub here : get_or bytes i 0 ≡ 10

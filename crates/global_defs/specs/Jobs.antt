-- Statements and jobs (GT.M: SET, KILL, ZKILL, $INCREMENT, $GET, $DATA, $ORDER, and tests that end in a rollback).
use Rattle.std.specs.Prelude.{ℕ, ℤ, List}
use Rattle.global_defs.specs.Key.{Key}

pub data Statement : Type 0 where
  Set : Key → List ℕ → Statement
  Kill : Key → Statement
  ZKill : Key → Statement
  Incr : Key → ℤ → Statement
  Get : Key → Statement
  Defined : Key → Statement
  -- the node above the level that is asked for, and the last subscript at that level, perhaps empty
  Order : Key → (last : List ℕ) → Statement
  CheckIs : Key → List ℕ → Statement
  CheckAtLeast : Key → ℤ → Statement

-- one statement, or those between TSTART and TCOMMIT
abbrev pub Job : Type 0
Job = List Statement

-- why a job is rolled back
pub data Cause : Type 0 where
  Check : Cause
  NotNum : Cause
  Full : Cause
  SeqLimit : Cause

-- a text a statement that answers
abbrev pub Answers : Type 0
Answers = List (List ℕ)

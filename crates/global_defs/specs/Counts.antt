-- Counts of faults and of calls, each a u64 (this project's rule: a failure is answered only where a count rose, and a count that stands at its last value is taken as risen).
use Rattle.std.specs.Prelude.{ℕ, ◌+◌, ◌-◌, ◌^◌, ◌≤◌, min, Result, OnErr}

-- the last value of a count, which is a u64
abbrev pub LAST : ℕ
LAST = 2 ^ 64 - 1

-- a count after one event more; it stays at its last value
abbrev pub counted_on : ℕ → ℕ
counted_on count = min (count + 1) LAST

-- the count rose, or stands at its last value
abbrev pub Rose : ℕ → ℕ → Type 0
Rose before now = counted_on before ≤ now

-- the count never falls, and a failure is answered only where it rose
pub record HasCause {T E : Type 0} (before now : ℕ) (result : Result T E) : Type 0 where
  pub later : before ≤ now
  pub failed : OnErr result (Rose before now)

-- What the code's answers say of a reading of parts.
use Rattle.std.specs.Prelude.{◌≡◌, ℕ, Option, Some, None}
use Rattle.std.specs.declared.result.Result.{Result}
use Rattle.std.specs.declared.result.Result.TheVariants.{Ok, Err}
use Rattle.repl_script.specs.declared.fault.Fault.{Fault}
use Rattle.repl_script.specs.declared.fault.Fault.TheVariants.{Bad, NoMemory}

-- the column that a fault tells, nothing where memory ran out
abbrev pub fault_value : Fault → Option ℕ
fault_value (Bad at) = Some at
fault_value NoMemory = None

-- an error is this reading's, unless memory ran out
abbrev pub Tells : {Y : Type 0} → Option ℕ → Result Y ℕ → Type 0
Tells None reading = Unit {0}
Tells (Some at) reading = reading ≡ Err at

-- what was answered is this reading, unless memory ran out
abbrev pub Reads : {X Y : Type 0} → (X → Y) → Result Y ℕ → Result X Fault → Type 0
Reads view reading (Ok x) = reading ≡ Ok (view x)
Reads view reading (Err e) = Tells (fault_value e) reading

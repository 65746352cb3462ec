-- What the code's answers say of a reading.
use Rattle.std.specs.Prelude.{◌≡◌, ℕ, Option, Some, None}
use Rattle.std.specs.declared.result.Result.{Result}
use Rattle.std.specs.declared.result.Result.TheVariants.{Ok, Err}
use Rattle.script_defs.specs.Parts as parts
use Rattle.gvn_text.specs.declared.fault.Fault.{Fault}
use Rattle.gvn_text.specs.declared.fault.TextError.{TextError}
use Rattle.gvn_text.specs.declared.fault.TextError.TheVariants.{BadQuote, BadChar, ValueTooLong, NoMemory}

-- the fault that an error tells, nothing where memory ran out
abbrev pub error_value : TextError → Option parts.TextFault
error_value (BadQuote at) = Some (parts.BadQuote at)
error_value (BadChar at) = Some (parts.BadChar at)
error_value (ValueTooLong at) = Some (parts.ValueTooLong at)
error_value NoMemory = None

abbrev pub fault_from : ℕ → Option parts.TextFault → Option parts.Fault
fault_from part None = None
fault_from part (Some error) = Some (record { part = part; error = error })

abbrev pub fault_value : Fault → Option parts.Fault
fault_value f = fault_from f.part (error_value f.error)

-- an error is this reading's, unless memory ran out
abbrev pub Tells : {Y : Type 0} → Option parts.Fault → Result Y parts.Fault → Type 0
Tells None reading = Unit {0}
Tells (Some fault) reading = reading ≡ Err fault

-- what was answered is this reading, unless memory ran out
abbrev pub Reads : {X Y : Type 0} → (X → Y) → Result Y parts.Fault → Result X Fault → Type 0
Reads view reading (Ok x) = reading ≡ Ok (view x)
Reads view reading (Err e) = Tells (fault_value e) reading

-- the fault of a reading, without its part
abbrev pub error_of : {Y : Type 0} → Result Y parts.Fault → Option parts.TextFault
error_of (Ok y) = None
error_of (Err fault) = Some fault.error

abbrev pub TellsError : {Y : Type 0} → Option parts.TextFault → Result Y parts.Fault → Type 0
TellsError None reading = Unit {0}
TellsError (Some error) reading = error_of reading ≡ Some error

-- what was answered is this reading without its part, unless memory ran out
abbrev pub ReadsText : {X Y : Type 0} → (X → Y) → Result Y parts.Fault → Result X TextError → Type 0
ReadsText view reading (Ok x) = reading ≡ Ok (view x)
ReadsText view reading (Err e) = TellsError (error_value e) reading

-- the same of a part that is there or isn't
abbrev pub ReadsPart : {X Y E : Type 0} → (X → Y) → Option Y → Result (Option X) E → Type 0
ReadsPart view reading (Ok None) = reading ≡ None
ReadsPart view reading (Ok (Some x)) = reading ≡ Some (view x)
ReadsPart view reading (Err e) = Unit {0}

-- What an answer says of a reading.
use Rattle.std.proofs.Common.{ℕ, Option, Some, None, ap}
use Rattle.std.specs.declared.result.Result.{Result}
use Rattle.script_defs.specs.Parts as parts
use Rattle.gvn_text.specs.Reads.{fault_from, Tells, error_of, TellsError}

-- a fault of a part tells its error
pub error_told : {Y : Type 0} (part : ℕ) (o : Option parts.TextFault) (reading : Result Y parts.Fault) → Tells (fault_from part o) reading → TellsError o reading
error_told part None reading h = h
error_told part (Some error) reading h = ap error_of h

-- What a gated file answers, as an instance file answers it.
use Rattle.gated_file.specs.declared.error.GateError.{GateError}
use Rattle.gated_file.specs.declared.error.GateError.TheVariants.{Failed, NotARecord, NoMemory}
use Rattle.instance_file.specs.declared.error.InstanceError.{InstanceError}
use Rattle.instance_file.specs.declared.error.InstanceError.TheVariants as error

abbrev pub gate_error : GateError → InstanceError
gate_error Failed = error.Failed
gate_error (NotARecord offset) = error.NotARecord offset
gate_error NoMemory = error.NoMemory

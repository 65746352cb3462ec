-- Reading an instance file from a place on.
use Rattle.std.specs.Prelude.{◌≡◌, ◌⊎◌, ℕ, ◌+◌, List, length, drop, Option, Some, None}
use Rattle.disk_defs.specs.Gates.{Body, Open, Shut, NoGate, gate_at}
use Rattle.journal_defs.specs.Instance as defs
use Rattle.journal_defs.specs.Instance.{IsInstanceBody}
use Rattle.instance_file.specs.Values.{record_value}
use Rattle.instance_file.specs.declared.record.InstanceRecord.{InstanceRecord}

-- A record behind an open gate and the next gate's place; or a closed gate.
abbrev pub FindsRecord : List ℕ → ℕ → Option (InstanceRecord × ℕ) → Type 0
FindsRecord file at None = gate_at file at ≡ Shut
FindsRecord file at (Some found) = (body : Body) × (gate_at file at ≡ Open body (drop found.1 file)) × (found.1 ≡ at + 5 + length body) × IsInstanceBody body (record_value found.0)

-- no gate of the format, or an open gate with a body of no record
abbrev pub IsNoRecord : List ℕ → ℕ → Type 0
IsNoRecord file at = (gate_at file at ≡ NoGate) ⊎ ((body : Body) × (next : ℕ) × (gate_at file at ≡ Open body (drop next file)) × ((r : defs.InstanceRecord) → IsInstanceBody body r → ⊥))

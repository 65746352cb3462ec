-- Files outside the format of gated files are no instance files.
use Rattle.std.proofs.Common.{◌≡◌, inl, inr, ℕ, List, length, Some, None}
use Rattle.std.proofs.lemmas.Bool.{cases_lt}
use Rattle.disk_defs.specs.Gates.{Gate, Shut, NoGate, gate_at, records}
use Rattle.disk_defs.specs.OutsideGates.{IsOutside}
use Rattle.gated_file.proofs.Walking.{outside_none}
use Rattle.journal_defs.specs.Instance.{InstanceRecord}
use Rattle.journal_defs.specs.Stands.{IsInstance}
use Rattle.disk_defs.proofs.Walks.{short_shut}

other_gate : (g : Gate) → g ≡ Shut → g ≡ NoGate → ⊥
other_gate g shut none = cc (shut, none)

pub outside_no_list : (file : List ℕ) (offset : ℕ) → IsOutside file offset → (rs : List InstanceRecord) → IsInstance file rs → ⊥
outside_no_list file offset out rs is = elim (cases_lt (length file) 2) [
  | inl short ↦ other_gate (gate_at file offset) (short_shut file offset short) out.here
  | inr long ↦
      let some : records file ≡ Some is.bodies.0 = is.bodies.1 in
      let none : records file ≡ None = outside_none file offset long out in
      cc (some, none)
]

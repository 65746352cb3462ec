use Rattle.std.proofs.Common.{◌≡◌, length}
use Rattle.global_defs.specs.Fields.{IsReign}
use Rattle.wire_defs.specs.Frames.{spelled_reign}
use Rattle.repl_wire.proofs.Found.{ReadSoFar}
use Rattle.repl_wire.proofs.reading.read_reigns.Given as goal

abbrev pub invariant-loop : goal.invariant-loop
invariant-loop l = (length l.reigns ≡ l.counter) × ReadSoFar IsReign spelled_reign l.bytes l.count l.reigns l.rest

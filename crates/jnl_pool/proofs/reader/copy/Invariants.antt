use Rattle.std.proofs.Common.{◌≡◌, ℕ, List, ◌++◌, length}
use Rattle.std.specs.Prelude.{vec_capacity}
use Rattle.wire_defs.specs.PoolWords.{unpacked}
use Rattle.jnl_pool.specs.Holds.{addressed}
use Rattle.jnl_pool.proofs.reader.copy.Given as goal

abbrev pub invariant-loop-i : goal.invariant-loop-i
invariant-loop-i l = record {
  table : l.seat.table ≡ l.initial.seat.table;
  words : (body : List ℕ) × (length body ≡ l.i) × (l.bytes.items ≡ l.initial.bytes.items ++ unpacked body) × (l.seat.view ≡ record l.initial.seat.view { held = l.initial.seat.view.held ++ addressed l.from body });
  room : vec_capacity l.bytes ≡ vec_capacity l.initial.bytes;
}

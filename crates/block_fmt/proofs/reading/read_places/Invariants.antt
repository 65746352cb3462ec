use Rattle.std.proofs.Common.{◌≡◌, ◌<◌, ◌-◌, ◌≤◌, drop, vec_capacity}
use Rattle.gvn_key.specs.Next.{Tells}
use Rattle.block_fmt.specs.Cells.{cell_at}
use Rattle.block_fmt.specs.Read.{first_cell, cells_in, places, BeginWithCell}
use Rattle.block_fmt.proofs.Walk.{IsWalked}
use Rattle.block_fmt.proofs.reading.read_places.Given as goal

abbrev pub invariant-loop : goal.invariant-loop
invariant-loop l = record {
  walked : IsWalked l.bytes l.counter l.at;
  items : l.places.items ≡ places 0 (cells_in l.counter l.bytes);
  room : 817 ≤ vec_capacity l.places;
  last : 0 < l.at → BeginWithCell (drop l.last l.bytes);
  told : 0 < l.at → Tells l.seen (first_cell (drop l.last l.bytes)).0;
  last_is : 0 < l.at → first_cell (drop l.last l.bytes) ≡ cell_at (cells_in l.counter l.bytes) (l.counter - 1);
}

use Rattle.std.proofs.Common.{◌≡◌, ◌≤◌, ◌++◌, take, drop, vec_capacity}
use Rattle.block_fmt.proofs.places.remove_run.Given as goal

abbrev pub invariant-loop : goal.invariant-loop
invariant-loop l = record {
  items : l.places.items ≡ take l.i l.fn.places.items ++ drop l.counter l.fn.places.items;
  from : l.i ≤ l.counter;
  capacity : vec_capacity l.fn.places ≤ vec_capacity l.places;
}

use Rattle.std.proofs.Common.{◌≡◌, ◌≤◌, ◌-◌, ◌++◌, take, map, vec_capacity}
use Rattle.block_fmt.proofs.places.push_places.Given as goal

abbrev pub invariant-loop-place : goal.invariant-loop-place
invariant-loop-place l = record {
  items : l.places.items ≡ l.fn.places.items ++ map (λ p. p - l.back) (take l.place-index l.more);
  capacity : vec_capacity l.fn.places ≤ vec_capacity l.places;
}

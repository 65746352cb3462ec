use Rattle.std.proofs.Common.{◌≡◌, ◌++◌, map, take, drop}
use Rattle.block_fmt.specs.Read.{moved}
use Rattle.block_fmt.proofs.places.shift.Given as goal

abbrev pub invariant-loop-place : goal.invariant-loop-place
invariant-loop-place l = l.places ≡ map (moved l.old l.new) (take l.place-index l.fn.places) ++ drop l.place-index l.fn.places

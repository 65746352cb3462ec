use Rattle.std.proofs.Common.{◌≡◌, length}
use Rattle.repl_script.specs.Places.{at_all}
use Rattle.repl_script.proofs.places.make_places.Given as goal

-- the places up to here are there
abbrev pub invariant-loop-place : goal.invariant-loop-place
invariant-loop-place l = record {
  same : at_all l.jobs ≡ at_all l.fn.jobs;
  count : length l.jobs ≡ l._place;
}

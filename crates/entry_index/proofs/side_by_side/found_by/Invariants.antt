use Rattle.std.proofs.Common.{◌≡◌, map}
use Rattle.entry_index.proofs.side_by_side.found_by.Given as goal

abbrev pub invariant-loop-cursor : goal.invariant-loop-cursor
invariant-loop-cursor l = record {
  signs : map (λ s. s.items) l.signs.items ≡ map (λ c. c.kept.signs.items) l.yielded;
  began : l.last_began.items ≡ map (λ c. c.reader.began) l.yielded;
}

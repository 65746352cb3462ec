use Rattle.entry_index.proofs.ItemLists.{Passed}
use Rattle.entry_index.proofs.items.read_items.Given as goal

-- so many items were passed over, whose positions lie so
abbrev pub invariant-loop : goal.invariant-loop
invariant-loop l = Passed l.n l.count l.bytes l.counter l.low l.span l.rest

use Rattle.jnl_record.proofs.ItemLists.{GoesOn}
use Rattle.jnl_record.proofs.parts.read_items.Given as goal

-- what is read of the items that are left completes those so far
abbrev pub invariant-loop : goal.invariant-loop
invariant-loop l = GoesOn l.n l.count l.bytes l.counter l.low l.items l.rest

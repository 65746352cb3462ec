use Rattle.std.proofs.Common.{◌≡◌, map, take}
use Rattle.entry_index.specs.Signs.{if_numbered}
use Rattle.entry_index.proofs.side_by_side.gather.Given as goal

abbrev pub invariant-loop-cursor : goal.invariant-loop-cursor
invariant-loop-cursor l = l.row.items ≡ map (λ c. if_numbered l.number c.waiting) (take l.cursor-index l.cursors)

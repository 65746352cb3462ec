use Rattle.std.proofs.Common.{◌≡◌, map, drop}
use Rattle.std.specs.List.{find}
use Rattle.std.specs.Ordering.{nat_cmp}
use Rattle.std.specs.BTreeSet.{contains}
use Rattle.region_opening.proofs.forward.first_among.Given as goal

-- none of the records so far stands in one of them
abbrev pub invariant-loop-placed : goal.invariant-loop-placed
invariant-loop-placed l = find (contains nat_cmp l.generations) (map (λ p. p.generation) l.behind) ≡ find (contains nat_cmp l.generations) (map (λ p. p.generation) (drop l.placed-index l.behind))

use Rattle.world_laws.proofs.needs.needs_are_told.Goals as goal
use Rattle.world_laws.proofs.Bare.{none_needing, first_needing}

-- src/needs.rt:12:1
pub returns-clause-none : goal.returns-clause-none
returns-clause-none c files d u t site held none = none_needing files d u t site held none

-- src/needs.rt:12:1
pub returns-clause-first : goal.returns-clause-first
returns-clause-first c files d u t name g site held first = first_needing files d u t name g site held first

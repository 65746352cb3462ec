use Rattle.std.proofs.Common.{List, [], subst}
use Rattle.std.specs.List.{AllByRecursion}
use Rattle.region_store.specs.Region.{Standing}
use Rattle.region_tests.specs.Nodeless.{HasNoNodes}
use Rattle.region_tests.proofs.Nodeless.{nothing_parted}
use Rattle.region_tests.proofs.joined.join.Goals as goal

pub new-requires-clause-parts : goal.new-requires-clause-parts
new-requires-clause-parts c =
    let none : AllByRecursion HasNoNodes c.args.regions.items =
    subst (λ (rs : List Standing). AllByRecursion HasNoNodes rs) c.deref.ensures.value (c.are_empty.ensures c.if-not-are_empty.false) in
    ([], nothing_parted c.args.directory.patterns c.args.regions.items none)

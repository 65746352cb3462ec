use Rattle.std.proofs.Common.{nat_le, rules, tests}
use Rattle.std.proofs.lemmas.List.Sorted.{IsPartitionPoint-from_clause, IsPartitionedBy-leb}
use Rattle.mupip_recover.proofs.Least.{up_to-point}
use Rattle.mupip_recover.proofs.minima.how_many_up_to.Goals as goal

pub returns : goal.returns
returns c =
    let point = IsPartitionPoint-from_clause (λ y. nat_le y c.args.limit) c.args.values.now c.partition_point.result c.partition_point.ensures.partitioned
    (IsPartitionedBy-leb (λ y. y) c.args.values.now c.args.limit c.requires) (λ a r q k. search (rules, tests)) in
    up_to-point c.args.limit c.args.values.now c.partition_point.result c.partition_point.ensures.bound point.0 point.1

use Rattle.std.proofs.Common.{ltb, ltb-true, ltb-false, get_or, rules, tests, arith}
use Rattle.std.proofs.lemmas.List.Sorted.{IsPartitionPoint-from_clause, IsPartitionedBy-ltb}
use Rattle.repl_disk.specs.declared.file.MemFile.{MemFile}
use Rattle.repl_disk.proofs.table.place_of.Goals as goal

pub returns : goal.returns
returns c =
    let files = c.args.files.now in
    let number = c.args.number in
    let point = IsPartitionPoint-from_clause (λ (m : MemFile). ltb m.number number) files c.partition_point.result c.partition_point.ensures.partitioned
    (IsPartitionedBy-ltb (λ (m : MemFile). m.number) files number c.requires.rising) (λ a r q k. search (rules, tests)) in
    record {
      inside = c.partition_point.ensures.bound;
      below = λ k d lt. ltb-true (get_or files k d).number number (point.0 k d (omega arith) lt);
      behind = λ k d le lt. ltb-false (get_or files k d).number number (point.1 k d le lt);
    }

use Rattle.std.proofs.Common.{◌≡◌, max, drop, map}
use Rattle.journal_defs.specs.Instance.{generation}
use Rattle.instance_file.specs.Values.{record_value}
use Rattle.instance_file.proofs.records.InstanceRecords.generation.Given as goal

-- the greatest so far and that of the records that are left
abbrev pub invariant-loop-record : goal.invariant-loop-record
invariant-loop-record l = generation (map record_value l.records) ≡ max l.greatest (generation (map record_value (drop l.record-index l.records)))

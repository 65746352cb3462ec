use Rattle.std.proofs.Common.{◌≡◌, map, drop}
use Rattle.std.specs.Option.{option_or}
use Rattle.journal_defs.specs.Instance.{mode_of}
use Rattle.instance_file.specs.Values.{record_value}
use Rattle.instance_file.proofs.records.InstanceRecords.mode.Given as goal

-- what the records that are left give, and else the mode so far
abbrev pub invariant-loop-given : goal.invariant-loop-given
invariant-loop-given l = mode_of (map record_value l.records) l.region ≡ option_or (mode_of (map record_value (drop l.given-index l.records)) l.region) l.mode

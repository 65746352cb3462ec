use Rattle.std.proofs.Common.{◌≡◌, take, drop, map}
use Rattle.journal_defs.specs.Surviving.{reigns}
use Rattle.instance_file.specs.Values.{record_value}
use Rattle.site_defs.specs.OutsideInstance.{left_by}
use Rattle.global_defs.proofs.Starts.{last_start}
use Rattle.global_defs.specs.Rising.{StartsRise}
use Rattle.instance_file.proofs.surviving.wrong_reign.Given as goal

-- the starts of those of the first records that survive the others rise up to this one
abbrev pub invariant-loop-i : goal.invariant-loop-i
invariant-loop-i l = record {
  rising : StartsRise 0 (left_by (map record_value (drop l.i l.records)) (reigns (map record_value (take l.i l.records))));
  last : last_start 0 (left_by (map record_value (drop l.i l.records)) (reigns (map record_value (take l.i l.records)))) ≡ l.low;
}

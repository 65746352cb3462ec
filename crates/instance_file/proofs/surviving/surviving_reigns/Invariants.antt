use Rattle.std.proofs.Common.{◌≡◌}
use Rattle.instance_file.proofs.Scanning.{scanned}
use Rattle.instance_file.proofs.surviving.surviving_reigns.Given as goal

-- those of the first records that survive the others
abbrev pub invariant-loop-i : goal.invariant-loop-i
invariant-loop-i l = l.made ≡ scanned l.records l.i

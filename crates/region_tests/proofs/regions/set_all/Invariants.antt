use Rattle.std.proofs.Common.{Option, IfSome}
use Rattle.disk_defs.specs.Disk.{Files}
use Rattle.region_store.specs.Region.{IsHeld}
use Rattle.region_tests.proofs.regions.set_all.Given as goal

abbrev pub invariant-loop-number : goal.invariant-loop-number
invariant-loop-number g l = (o : Option Files) → IfSome o (IsHeld l.fn.region) → IfSome o (IsHeld l.region)

use Rattle.std.proofs.Common.{Option, sym, subst}
use Rattle.std.specs.Prelude.{IfSome}
use Rattle.disk_defs.specs.Disk.{Files}
use Rattle.region_store.specs.Region.{IsHeld}
use Rattle.region_tests.proofs.regions.flush_within.Goals as goal

pub flush-requires-clause-held : goal.flush-requires-clause-held
flush-requires-clause-held g c = subst (λ (o : Option Files). IfSome o (IsHeld c.logged.new.region)) (sym c.fuse.ensures.reads.content) c.in_ok-logged.ensures.held

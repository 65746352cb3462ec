use Rattle.std.proofs.Common.{◌≤◌, ◌<◌, ◌-◌, List, IfSome}
use Rattle.disk_defs.specs.Disk.{Reads}
use Rattle.disk_defs.specs.Gates.{Body}
use Rattle.disk_defs.specs.OutsideGates.{LeadsTo}
use Rattle.gated_file.proofs.attach.find_end.Given as goal

abbrev pub invariant-loop-n : goal.invariant-loop-n
invariant-loop-n g l =
    let view = g.D.Disk.disk in
    record {
      inside : l.at < l.fn.size;
      leads : IfSome (view l.fn.disk).content (λ files. (bodies : List Body) × LeadsTo (files l.fn.file) l.at bodies);
      reads : Reads (view l.fn.disk) (view l.disk);
      faults : (view l.fn.disk).faults ≤ (view l.disk).faults;
    }

abbrev pub decreases-loop-n : goal.decreases-loop-n
decreases-loop-n g l = l.size - l.at

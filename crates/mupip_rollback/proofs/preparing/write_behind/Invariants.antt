use Rattle.std.proofs.Common.{◌≤◌, IfSome}
use Rattle.disk_defs.specs.Disk.{Reads}
use Rattle.mupip_rollback.proofs.Lost.{IsWritten}
use Rattle.mupip_rollback.proofs.preparing.write_behind.Given as goal

abbrev pub invariant-loop-done : goal.invariant-loop-done
invariant-loop-done g l =
    let view = g.D.Disk.disk in
    let u = view l.fn.disk in
    let v = view l.disk in
    record {
      text : IfSome u.content (IsWritten l.found l.fn.target l.fn.out l.done l.out);
      reads : Reads u v;
      faults : u.faults ≤ v.faults;
    }

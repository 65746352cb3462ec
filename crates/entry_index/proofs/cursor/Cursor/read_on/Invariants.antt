use Rattle.std.proofs.Common.{◌≤◌, IfSome}
use Rattle.disk_defs.specs.Disk.{Reads}
use Rattle.entry_index.specs.Cursors.{IsReady, ReadsOnFor, left}
use Rattle.entry_index.proofs.cursor.Cursor.read_on.Given as goal

abbrev pub invariant-loop-alloc : goal.invariant-loop-alloc
invariant-loop-alloc g l =
    let view = g.D.Disk.disk in
    record {
      ready : IsReady (view l.disk).content l.fn.self.reader.region l.fn.self.reader.last l.self.reader;
      read : IfSome (view l.fn.disk).content (ReadsOnFor l.cuts l.lowest l.settled l.fn.self l.self);
      reads : Reads (view l.fn.disk) (view l.disk);
      faults : (view l.fn.disk).faults ≤ (view l.disk).faults;
    }

abbrev pub decreases-loop-alloc : goal.decreases-loop-alloc
decreases-loop-alloc g l = left l.self.reader

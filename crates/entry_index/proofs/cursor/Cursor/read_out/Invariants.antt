use Rattle.std.proofs.Common.{◌≡◌, ◌≤◌, None, IfSome}
use Rattle.disk_defs.specs.Disk.{Reads}
use Rattle.entry_index.specs.Cursors.{IsReady, ReadsOutBy, left}
use Rattle.entry_index.proofs.cursor.Cursor.read_out.Given as goal

abbrev pub invariant-loop-self : goal.invariant-loop-self
invariant-loop-self g l =
    let view = g.D.Disk.disk in
    record {
      ready : IsReady (view l.disk).content l.fn.self.reader.region l.fn.self.reader.last l.self.reader;
      read : IfSome (view l.fn.disk).content (ReadsOutBy l.cuts l.low l.fn.self l.self);
      none : l.self.waiting ≡ None;
      reads : Reads (view l.fn.disk) (view l.disk);
      faults : (view l.fn.disk).faults ≤ (view l.disk).faults;
    }

abbrev pub decreases-loop-self : goal.decreases-loop-self
decreases-loop-self g l = left l.self.reader

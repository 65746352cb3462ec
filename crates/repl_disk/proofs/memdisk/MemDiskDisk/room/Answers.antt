use Rattle.std.proofs.Common.{reverse, ap}
use Rattle.repl_disk.specs.Table.{lefts, rooms}
use Rattle.repl_disk.proofs.MemCalls.{reads_at, more_given, more_same}
use Rattle.repl_disk.proofs.memdisk.MemDiskDisk.room.Goals as goal

pub returns-in-Ok-clause-reads : goal.returns-in-Ok-clause-reads
returns-in-Ok-clause-reads c =
    let m = c.args.self.now in
    let w = c.do_room.new.self in
    reads_at (lefts m.files.items) (lefts w.files.items) (reverse m.calls.items) (reverse w.calls.items) m.written.items w.written.items (rooms m.files.items) (rooms w.files.items) m.faults w.faults c.do_room.ensures.left (ap reverse c.do_room.ensures.calls) c.do_room.ensures.written
    (more_given (rooms m.files.items) (rooms w.files.items) _ _ _ c.in-Ok.ensures.ok)

pub returns-in-Err-clause-reads : goal.returns-in-Err-clause-reads
returns-in-Err-clause-reads c =
    let m = c.args.self.now in
    let w = c.do_room.new.self in
    reads_at (lefts m.files.items) (lefts w.files.items) (reverse m.calls.items) (reverse w.calls.items) m.written.items w.written.items (rooms m.files.items) (rooms w.files.items) m.faults w.faults c.do_room.ensures.left (ap reverse c.do_room.ensures.calls) c.do_room.ensures.written
    (more_same (rooms m.files.items) (rooms w.files.items) c.in-Err.ensures.err)

use Rattle.std.proofs.Common.{reverse}
use Rattle.repl_disk.specs.Table.{lefts}
use Rattle.repl_disk.proofs.MemCalls.{sync_passes}
use Rattle.repl_disk.proofs.memdisk.MemDiskDisk.sync.Goals as goal

pub returns-clause-passes : goal.returns-clause-passes
returns-clause-passes c =
    let m = c.args.self.now in
    let w = c.do_sync.new.self in
    sync_passes (lefts m.files.items) (lefts w.files.items) (reverse m.calls.items) (reverse w.calls.items) m.written.items w.written.items c.do_sync.ensures.left c.args.file _ _ _ _ c.do_sync.ensures.calls c.do_sync.ensures.written

use Rattle.std.proofs.Common.{◌≤◌, length, sym, arith}
use Rattle.disk_defs.specs.Disk.{Files}
use Rattle.disk_defs.proofs.Told.{told_at}
use Rattle.disk_tests.proofs.disks.put.Goals as goal

pub write_at-requires-clause-place : goal.write_at-requires-clause-place
write_at-requires-clause-place c = told_at _ _ (λ (files : Files). c.args.at ≤ length (files c.args.file)) (sym c.len.ensures.reads.content) (omega (arith, c.if-end-at.false, c.in_ok-end.ensures.length))

pub write_at-requires-clause-room : goal.write_at-requires-clause-room
write_at-requires-clause-room c =
    let added = c.in-Ok.ensures.added.added 0 0 (omega arith, omega arith) in
    c.len.ensures.reads.room c.args.file 1 (length c.args.bytes.now) (omega (arith, added.0), omega (arith, added.1))

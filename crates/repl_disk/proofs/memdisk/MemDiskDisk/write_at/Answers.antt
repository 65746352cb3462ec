use Rattle.std.proofs.Common.{reverse, length}
use Rattle.repl_disk.specs.Mem.{replay}
use Rattle.repl_disk.specs.Table.{lefts}
use Rattle.repl_disk.proofs.MemCalls.{same_passes, torn_same, wrote_passes, wrote_reads, written_content}
use Rattle.repl_disk.proofs.memdisk.MemDiskDisk.write_at.Goals as goal

pub returns-in_err-burn-clause-passes : goal.returns-in_err-burn-clause-passes
returns-in_err-burn-clause-passes c = same_passes _ (λ x. torn_same c.args.file c.args.at (length c.args.bytes.now) x) _ _ _ _ _ _ _

pub returns-clause-passes : goal.returns-clause-passes
returns-clause-passes c =
    let m = c.args.self.now in
    let w = c.do_write.new.self in
    wrote_passes (lefts m.files.items) (lefts w.files.items) (reverse m.calls.items) (reverse w.calls.items) m.written.items w.written.items c.do_write.ensures.left c.args.file c.args.at c.args.bytes.now _ _ _ _ c.requires.place c.do_write.ensures.calls c.do_write.ensures.written

pub returns-clause-ok : goal.returns-clause-ok
returns-clause-ok c =
    let m = c.args.self.now in
    let w = c.do_write.new.self in
    wrote_reads (lefts m.files.items) (lefts w.files.items) (reverse m.calls.items) (reverse w.calls.items) m.written.items w.written.items c.do_write.ensures.left c.args.file c.args.at c.args.bytes.now c.do_write.ensures.calls c.do_write.ensures.written

pub returns-clause-content : goal.returns-clause-content
returns-clause-content c =
    let m = c.args.self.now in
    let w = c.do_write.new.self in
    written_content c.args.file c.args.at c.args.bytes.now (λ f. (replay (lefts m.files.items) (reverse m.calls.items) m.written.items f).read) (λ f. (replay (lefts w.files.items) (reverse w.calls.items) w.written.items f).read) c.requires.place
    (wrote_reads (lefts m.files.items) (lefts w.files.items) (reverse m.calls.items) (reverse w.calls.items) m.written.items w.written.items c.do_write.ensures.left c.args.file c.args.at c.args.bytes.now c.do_write.ensures.calls c.do_write.ensures.written)

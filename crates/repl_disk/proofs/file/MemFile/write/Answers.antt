use Rattle.std.proofs.Common.{rules, ◌-◌, length}
use Rattle.repl_disk.specs.declared.file.MemFile.{MemFile}
use Rattle.repl_disk.proofs.Kept.{Writes, kept_written, mem_written}
use Rattle.repl_disk.proofs.file.MemFile.write.Goals as goal

pub returns-clause-kept : goal.returns-clause-kept
returns-clause-kept c = kept_written c.args.self.now _ c.args.at c.args.bytes.now (search rules) c.requires.kept

pub returns-clause-mem : goal.returns-clause-mem
returns-clause-mem c =
    let m = c.args.self.now in
    let w : MemFile = record m { read = c.overwrite.new.read; low = c.min-first.result; synced = c.put_before.new.list; marks = c.mark.new.marks; bytes_left = m.bytes_left - length c.args.bytes.now } in
    let call : Writes m w c.args.at c.args.bytes.now = search rules in
    mem_written m w c.args.at c.args.bytes.now call c.requires.kept

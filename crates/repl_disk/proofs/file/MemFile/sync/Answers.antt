use Rattle.std.proofs.Common.{rules, ◌≡◌, [], length}
use Rattle.repl_disk.specs.declared.file.MemFile.{MemFile}
use Rattle.repl_disk.proofs.Kept.{mem_settled}
use Rattle.repl_disk.proofs.file.MemFile.sync.Goals as goal

pub returns-clause-mem : goal.returns-clause-mem
returns-clause-mem c =
    let w : MemFile = record c.args.self.now { low = c.len-self.result; synced = c.clear.new.self; marks = c.clear-2.new.self } in
    let low : c.len-self.result ≡ length c.args.self.now.read.items = search rules in
    let synced : c.clear.new.self.items ≡ [] = search rules in
    let marks : c.clear-2.new.self.items ≡ [] = search rules in
    mem_settled w low synced marks

use Rattle.std.proofs.Common.{sym, ap}
use Rattle.repl_disk.specs.Table.{Entry}
use Rattle.repl_disk.proofs.Tables.{first_reads, none_reads}
use Rattle.repl_disk.proofs.table.syncs_in.Goals as goal

pub returns-in-Ok : goal.returns-in-Ok
returns-in-Ok c = ap (λ (e : Entry). e.syncs) (sym (first_reads c.args.files.now c.args.number c.in-Ok.i c.index-files-i.result c.in-Ok.ensures.found))

pub returns-in-Err : goal.returns-in-Err
returns-in-Err c = ap (λ (e : Entry). e.syncs) (sym (none_reads c.args.files.now c.args.number c.in-Err.ensures.absent))

use Rattle.std.proofs.Common.{rules, ◌≡◌, get_or, sym, ◌∙◌, ap}
use Rattle.repl_disk.specs.Table.{Entry}
use Rattle.repl_disk.proofs.Tables.{first_reads, none_reads}
use Rattle.repl_disk.proofs.table.bytes_of.Goals as goal

pub returns-in-Ok : goal.returns-in-Ok
returns-in-Ok c =
    let value : c.deref.result.now ≡ (get_or c.args.files.now c.in-Ok.i c.index-files-i.result).read.items = search rules in
    value ∙ ap (λ (e : Entry). e.mem.read) (sym (first_reads c.args.files.now c.args.number c.in-Ok.i c.index-files-i.result c.in-Ok.ensures.found))

pub returns-in-Err : goal.returns-in-Err
returns-in-Err c = ap (λ (e : Entry). e.mem.read) (sym (none_reads c.args.files.now c.args.number c.in-Err.ensures.absent))

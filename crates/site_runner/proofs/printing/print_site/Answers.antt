use Rattle.std.proofs.Common.{refl}
use Rattle.repl_section.specs.declared.reign.Reign.{Reign}
use Rattle.site_store.specs.Owning.{disk_of}
use Rattle.site_runner.specs.Ending.{primary, primary_after}
use Rattle.site_runner.proofs.Results.{err_holds}
use Rattle.site_runner.proofs.Endings.{primary_still}
use Rattle.site_runner.proofs.Printed.{typing_of, text_of, prints, print_cut}
use Rattle.site_runner.proofs.printing.print_site.Goals as goal
use Rattle.repl_section.proofs.Results.{on_ok}

pub returns-clause-done : goal.returns-clause-done
returns-clause-done g c =
    let e = c.read_file-read.ensures in
    let old = c.args.reign.now in
    let new : Reign g.row.D.Denot = record { site = c.read_file-read.new.self; serials = old.serials } in
    let v = g.D.Disk.disk (disk_of old.site) in
    prints c.args.lost (typing_of c.args.lost c.typing_reads_files.ensures.broken c.typing_reads_files.ensures.lost) c.args.generation v (g.D.Disk.disk (disk_of new.site)) (primary c.args.name.now old) (primary_after c.args.name.now new)
    c.new-bytes.result c.read_file-read.new.out c.args.text.now _ c.read_file-read.result c.tell_bytes.result e.reads e.faults refl c.requires.some c.requires.most c.new-bytes.ensures (primary_still c.args.name.now old new e.memory refl) (λ k. refl)
    (on_ok c.read_file-read.result _ _ e.text (text_of c.args.lost c.args.generation c.typed_file.result v.content c.new-bytes.result c.read_file-read.new.out c.typed_file.ensures))
    c.tell_bytes.ensures.read c.tell_bytes.ensures.failed

pub returns-clause-cut_off : goal.returns-clause-cut_off
returns-clause-cut_off g c =
    let e = c.read_file-read.ensures in
    err_holds c.tell_bytes.result _ (print_cut c.args.lost c.args.generation (g.D.Disk.disk (disk_of c.args.reign.now.site)) (g.D.Disk.disk (disk_of c.read_file-read.new.self)) (primary c.args.name.now c.args.reign.now) e.reads e.faults.later)

use Rattle.std.proofs.Common.{refl}
use Rattle.site_runner.specs.Ending.{down, down_after}
use Rattle.site_runner.proofs.Results.{err_holds}
use Rattle.site_runner.proofs.Printed.{typing_of, text_of, prints, print_cut}
use Rattle.site_runner.proofs.printing.print_disk.Goals as goal
use Rattle.repl_section.proofs.Results.{on_ok}

pub returns-clause-done : goal.returns-clause-done
returns-clause-done g c =
    let v = g.D.Disk.disk c.args.disk.now in
    let e = c.read_file-read.ensures in
    prints c.args.lost (typing_of c.args.lost c.typing_reads_files.ensures.broken c.typing_reads_files.ensures.lost) c.args.generation v (g.D.Disk.disk c.read_file-read.new.disk) (down c.args.name.now) (down_after c.args.name.now)
    c.new-bytes.result c.read_file-read.new.out c.args.text.now _ c.read_file-read.result c.tell_bytes.result e.reads e.faults refl c.requires.some c.requires.most c.new-bytes.ensures refl (λ k. refl)
    (on_ok c.read_file-read.result _ _ e.text (text_of c.args.lost c.args.generation c.typed_file.result v.content c.new-bytes.result c.read_file-read.new.out c.typed_file.ensures))
    c.tell_bytes.ensures.read c.tell_bytes.ensures.failed

pub returns-clause-cut_off : goal.returns-clause-cut_off
returns-clause-cut_off g c =
    let e = c.read_file-read.ensures in
    err_holds c.tell_bytes.result _ (print_cut c.args.lost c.args.generation (g.D.Disk.disk c.args.disk.now) (g.D.Disk.disk c.read_file-read.new.disk) (down c.args.name.now) e.reads e.faults.later)

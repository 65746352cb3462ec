use Rattle.std.proofs.Common.{ap}
use Rattle.world_defs.specs.rows.Print.{print}
use Rattle.site_runner.proofs.Stopped.{opened_leaves}
use Rattle.site_runner.proofs.printing.print_open.Goals as goal

pub returns-clause-left : goal.returns-clause-left
returns-clause-left g c =
    let e = c.opened.ensures in
    opened_leaves g.D.Disk.disk (print c.args.lost c.args.generation) c.args.reign c.as_mut.result.now c.print_site-ended.new.reign c.args.name c.as_slice.result.now _ c.opened.result c.print_site-ended.result c.args.text.now c.print_site-ended.new.text c.as_mut.ensures.value c.as_slice.ensures (ap g.D.Disk.disk e.disk) e.site e.ended c.print_site-ended.ensures.done c.print_site-ended.ensures.cut_off

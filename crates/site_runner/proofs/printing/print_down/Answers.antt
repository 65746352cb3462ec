use Rattle.std.proofs.Common.{ap}
use Rattle.world_defs.specs.rows.Print.{print}
use Rattle.site_runner.proofs.Stopped.{closed_leaves}
use Rattle.site_runner.proofs.printing.print_down.Goals as goal

pub returns-clause-left : goal.returns-clause-left
returns-clause-left g c =
    let e = c.closed.ensures in
    closed_leaves g.D.Disk.disk (print c.args.lost c.args.generation) c.args.disk c.args.name c.as_slice.result.now _ c.closed.result c.print_disk-ended.result c.args.text.now c.print_disk-ended.new.text c.as_slice.ensures (ap g.D.Disk.disk e.disk) e.site e.ended c.print_disk-ended.ensures.done c.print_disk-ended.ensures.cut_off

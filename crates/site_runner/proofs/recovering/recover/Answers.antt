use Rattle.std.proofs.Common.{ap}
use Rattle.world_defs.specs.rows.Recover.{recover}
use Rattle.site_runner.proofs.Stopped.{closed_leaves}
use Rattle.site_runner.proofs.recovering.recover.Goals as goal

pub returns-clause-left : goal.returns-clause-left
returns-clause-left g c =
    let e = c.closed.ensures in
    closed_leaves g.D.Disk.disk (recover c.args.anew) c.args.disk c.args.name c.as_slice.result.now _ c.closed.result c.recover_down-ended.result c.args.text.now c.recover_down-ended.new.text c.as_slice.ensures (ap g.D.Disk.disk e.disk) e.site e.ended c.recover_down-ended.ensures.done c.recover_down-ended.ensures.cut_off

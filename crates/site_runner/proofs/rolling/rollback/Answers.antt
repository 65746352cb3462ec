use Rattle.std.proofs.Common.{ap}
use Rattle.world_defs.specs.rows.Rollback.{rollback}
use Rattle.site_runner.proofs.Stopped.{closed_leaves}
use Rattle.site_runner.proofs.rolling.rollback.Goals as goal

pub returns-clause-left : goal.returns-clause-left
returns-clause-left g c =
    let e = c.closed.ensures in
    closed_leaves g.D.Disk.disk (rollback c.args.number) c.args.disk c.args.name c.as_slice.result.now _ c.closed.result c.roll_down-ended.result c.args.text.now c.roll_down-ended.new.text c.as_slice.ensures (ap g.D.Disk.disk e.disk) e.site e.ended c.roll_down-ended.ensures.done c.roll_down-ended.ensures.cut_off

use Rattle.std.proofs.Common.{ap}
use Rattle.world_defs.specs.rows.Epoch.{epoch}
use Rattle.site_runner.proofs.Stopped.{opened_leaves}
use Rattle.site_runner.proofs.epoch.epoch.Goals as goal

pub returns-clause-left : goal.returns-clause-left
returns-clause-left g c =
    let e = c.opened.ensures in
    opened_leaves g.D.Disk.disk epoch c.args.reign c.as_mut.result.now c.mark-ended.new.reign c.args.name c.as_slice.result.now _ c.opened.result c.mark-ended.result c.args.text.now c.mark-ended.new.text c.as_mut.ensures.value c.as_slice.ensures (ap g.D.Disk.disk e.disk) e.site e.ended c.mark-ended.ensures.done c.mark-ended.ensures.cut_off

use Rattle.std.proofs.Common.{ap}
use Rattle.world_defs.specs.rows.SetJournal.{set_journal}
use Rattle.site_runner.proofs.Stopped.{closed_leaves}
use Rattle.site_runner.proofs.setting.set_journal.Goals as goal

pub returns-clause-left : goal.returns-clause-left
returns-clause-left g c =
    let e = c.closed.ensures in
    closed_leaves g.D.Disk.disk (set_journal c.args.region c.args.before) c.args.disk c.args.name c.as_slice.result.now _ c.closed.result c.set_down-ended.result c.args.text.now c.set_down-ended.new.text c.as_slice.ensures (ap g.D.Disk.disk e.disk) e.site e.ended c.set_down-ended.ensures.done c.set_down-ended.ensures.cut_off

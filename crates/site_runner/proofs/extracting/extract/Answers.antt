use Rattle.std.proofs.Common.{ap}
use Rattle.world_defs.specs.rows.Extract.{extract}
use Rattle.site_runner.proofs.Stopped.{opened_leaves}
use Rattle.site_runner.proofs.extracting.extract.Goals as goal

pub returns-clause-left : goal.returns-clause-left
returns-clause-left g c =
    let e = c.opened.ensures in
    opened_leaves g.D.Disk.disk (extract c.args.number) c.args.reign c.as_mut.result.now c.extract_open-ended.new.reign c.args.name c.as_slice.result.now _ c.opened.result c.extract_open-ended.result c.args.text.now c.extract_open-ended.new.text c.as_mut.ensures.value c.as_slice.ensures (ap g.D.Disk.disk e.disk) e.site e.ended c.extract_open-ended.ensures.done c.extract_open-ended.ensures.cut_off

use Rattle.std.proofs.Common.{ap}
use Rattle.world_defs.specs.rows.Fuse.{fuse}
use Rattle.site_runner.specs.Ending.{down}
use Rattle.site_runner.proofs.Stopped.{closed_leaves, cut_unless}
use Rattle.site_runner.proofs.fusing.fuse_down.Goals as goal

pub returns-clause-left : goal.returns-clause-left
returns-clause-left g c =
    let e = c.closed.ensures in
    let n = c.as_slice.result.now in
    closed_leaves g.D.Disk.disk (fuse c.args.calls) c.args.disk c.args.name n _ c.closed.result c.fuse_disk-ended.result c.args.text.now c.fuse_disk-ended.new.text c.as_slice.ensures (ap g.D.Disk.disk e.disk) e.site e.ended c.fuse_disk-ended.ensures.done
    (cut_unless g.D.Disk.disk c.fuse_disk-ended.result (fuse c.args.calls n) c.args.disk c.fuse_disk-ended.new.disk (down n) c.fuse_disk-ended.ensures.kept)

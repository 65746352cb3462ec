use Rattle.std.proofs.Common.{ap}
use Rattle.world_defs.specs.rows.Fuse.{fuse}
use Rattle.site_store.specs.Owning.{disk_of}
use Rattle.site_runner.specs.Ending.{primary}
use Rattle.site_runner.proofs.Stopped.{opened_leaves, cut_unless}
use Rattle.site_runner.proofs.fusing.fuse_open.Goals as goal

pub returns-clause-left : goal.returns-clause-left
returns-clause-left g c =
    let e = c.opened.ensures in
    let n = c.as_slice.result.now in
    opened_leaves g.D.Disk.disk (fuse c.args.calls) c.args.reign c.as_mut.result.now c.fuse_site-ended.new.reign c.args.name n _ c.opened.result c.fuse_site-ended.result c.args.text.now c.fuse_site-ended.new.text c.as_mut.ensures.value c.as_slice.ensures (ap g.D.Disk.disk e.disk) e.site e.ended c.fuse_site-ended.ensures.done
    (cut_unless (λ r. g.D.Disk.disk (disk_of r.site)) c.fuse_site-ended.result (fuse c.args.calls n) c.as_mut.result.now c.fuse_site-ended.new.reign (primary n c.as_mut.result.now) c.fuse_site-ended.ensures.kept)

use Rattle.region_tests.proofs.Kept.{opened_held}
use Rattle.region_tests.proofs.regions.open.Goals as goal

pub returns : goal.returns
returns g c =
    let view = g.D.Disk.disk in
    record { held = opened_held c.open.result (view c.args.disk.now).content (view c.open.new.disk).content 3 c.args.blocks c.args.behind.now c.open.ensures.reads.content c.open.ensures.file c.open.ensures.holds }

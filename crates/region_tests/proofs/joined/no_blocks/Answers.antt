use Rattle.std.proofs.Common.{[]}
use Rattle.region_tests.proofs.Kept.{opened_held}
use Rattle.region_tests.proofs.joined.no_blocks.Goals as goal

pub returns-clause-held : goal.returns-clause-held
returns-clause-held g c =
    let view = g.D.Disk.disk in
    opened_held c.open.result (view c.args.disk.now).content (view c.open.new.disk).content c.args.file 0 [] c.open.ensures.reads.content c.open.ensures.file c.open.ensures.holds

use Rattle.block_tests.proofs.Marked.{clean}
use Rattle.block_tests.proofs.pools.write.Goals as goal

pub write_out-requires : goal.write_out-requires
write_out-requires g c = record { clean = clean c.args.pool.now 3 (g.D.Disk.disk c.args.disk.now).content c.requires.marks c.requires.count }

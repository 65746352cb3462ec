use Rattle.std.proofs.Common.{subst}
use Rattle.std.specs.Prelude.{IfSome}
use Rattle.block_pool.specs.Pool.{AllStand}
use Rattle.gvt_leaf.specs.Stored.{Stored}
use Rattle.region_store.proofs.flushing.write_changed.Goals as goal

pub returns-in-Ok-clause-written : goal.returns-in-Ok-clause-written
returns-in-Ok-clause-written g c = subst (λ (x : Stored). IfSome (g.D.Disk.disk c.write_out.new.disk).content (λ files. AllStand x.pool (files c.args.file))) c.in-Ok.ensures.ok c.in-Ok.ensures.written

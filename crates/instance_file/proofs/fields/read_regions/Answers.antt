use Rattle.std.proofs.Common.{arith}
use Rattle.std.proofs.lemmas.List.{map-append}
use Rattle.instance_file.proofs.RegionLists.{goes_on, goes_out, goes_done}
use Rattle.instance_file.proofs.fields.read_regions.Goals as goal

pub returns-in_default : goal.returns-in_default
returns-in_default c = goes_out _ _ _ _ _ c.loop.invariant (omega arith) c.in_default.ensures

pub loop-preserved : goal.loop-preserved
loop-preserved c = rw (c.in_ok-push.ensures.ok, map-append, c.in_ok-of.ensures) (goes_on _ _ _ _ _ c.loop.invariant _ _ c.in-Some.ensures)

pub returns : goal.returns
returns c = goes_done _ _ _ _ _ c.loop.invariant (omega arith)

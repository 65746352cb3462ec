use Rattle.std.proofs.Common.{arith}
use Rattle.region_store.specs.Joined.{joined}
use Rattle.site_store.proofs.Nodes.{few_updates}
use Rattle.site_store.proofs.fitting.check_room.Goals as goal

pub returns-then-len-most-clause-fits : goal.returns-then-len-most-clause-fits
returns-then-len-most-clause-fits c = few_updates (joined c.args.globals.now) c.args.updates.now (let nodes = c.nodes-nodes.ensures in let size = c.len.ensures in omega (arith, nodes, size, c.if-nodes-most.true, c.if-len-most.true))

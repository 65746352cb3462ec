use Rattle.gvn_globals.proofs.AllOrNone.{less_next}
use Rattle.gvn_globals.proofs.globals.Globals.remove_all.Goals as goal

pub loop-key-preserved : goal.loop-key-preserved
loop-key-preserved c = less_next c.args.self.now c.args.keys.now c.loop-key.key-index c.key-item.result c.loop-key.self c.remove.new.self c.loop-key-test.true c.key-item.is c.loop-key.invariant c.remove.ensures

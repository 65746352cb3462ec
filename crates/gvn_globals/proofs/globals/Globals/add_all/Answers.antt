use Rattle.std.proofs.Common.{[], subst}
use Rattle.gvn_globals.specs.Together.{IsLess}
use Rattle.gvn_globals.proofs.AllOrNone.{more_next, undone}
use Rattle.gvn_globals.proofs.globals.Globals.add_all.Goals as goal

pub returns-in-Err-clause-err : goal.returns-in-Err-clause-err
returns-in-Err-clause-err c = undone c.args.self.now c.args.keys.now c.loop-key.key-index c.loop-key.self c.remove_all.new.self c.requires c.loop-key.invariant
    (subst (λ m. IsLess m c.args.keys.now c.remove_all.new.self) c.in-Err.ensures.err c.remove_all.ensures)

pub loop-key-preserved : goal.loop-key-preserved
loop-key-preserved c = more_next c.args.self.now c.args.keys.now c.loop-key.key-index c.key-item.result [] c.loop-key.self c.add.new.self c.loop-key-test.true c.key-item.is c.loop-key.invariant c.in_default.ensures.ok

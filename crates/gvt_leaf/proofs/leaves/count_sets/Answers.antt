use Rattle.std.proofs.Common.{arith}
use Rattle.gvn_key.specs.Terms.{update_value}
use Rattle.gvt_leaf.proofs.Made.{sets_few, sets_at}
use Rattle.gvt_leaf.proofs.leaves.count_sets.Goals as goal

pub loop-update-preserved : goal.loop-update-preserved
loop-update-preserved c =
    let i = c.loop-update.invariant in
    let u = c.update-item.result in
    record {
      count = omega (arith, i.count, c.sets_of-sets.ensures, sets_at update_value c.args.updates.now c.loop-update.update-index u c.loop-update-test.true c.update-item.is);
      few = omega (arith, i.few, c.sets_of-sets.ensures, sets_few (update_value u));
    }

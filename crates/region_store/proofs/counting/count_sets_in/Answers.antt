use Rattle.std.proofs.Common.{◌∙◌, ap, map, arith}
use Rattle.std.proofs.lemmas.List.{take_all}
use Rattle.gvn_key.specs.Terms.{update_value}
use Rattle.block_laws.specs.Nodes.{updates_in}
use Rattle.gvt_leaf.specs.Stored.{sets_in}
use Rattle.region_store.proofs.Counted.{sets_more}
use Rattle.region_store.proofs.counting.count_sets_in.Goals as goal

pub loop-update-preserved : goal.loop-update-preserved
loop-update-preserved c =
    let i = c.loop-update.invariant in
    record {
      count = omega (arith, i.count, c.sets_there-sets.ensures.sets, sets_more update_value c.args.directory.now.patterns c.args.region c.args.updates.now c.loop-update.update-index c.update-item.result c.loop-update-test.true c.update-item.is);
      few = omega (arith, i.few, c.sets_there-sets.ensures.few);
    }

pub returns : goal.returns
returns c =
    let end = c.loop-update-test.false in
    c.loop-update.invariant.count ∙ ap (λ us. sets_in (updates_in c.args.directory.now.patterns c.args.region (map update_value us))) (take_all c.loop-update.update-index c.args.updates.now (omega (arith, end)))

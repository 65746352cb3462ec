use Rattle.std.proofs.Common.{arith, ap, ◌∙◌}
use Rattle.gvn_key.specs.Terms.{update_value}
use Rattle.global_defs.specs.Entry.{Globals, apply}
use Rattle.region_store.specs.Joined.{joined}
use Rattle.site_store.proofs.Nodes.{all_fit, one_too_many}
use Rattle.site_store.proofs.fitting.check_each.Goals as goal

pub returns-then-nodes-gt-MOST_NODES-clause-full : goal.returns-then-nodes-gt-MOST_NODES-clause-full
returns-then-nodes-gt-MOST_NODES-clause-full c nodes is =
    one_too_many update_value (joined c.args.globals.now) c.apply.new.self c.as_slice-update-items.result.now c.args.updates.now c.loop-update.update-index c.update-item.result c.as_slice-update-items.ensures (omega (arith, c.loop-update-test.true)) c.update-item.is
    (c.in_ok-apply.ensures ∙ ap (λ (o : Globals). apply o (update_value c.update-item.result)) c.loop-update.invariant.made) (let count = c.nodes-nodes.ensures in omega (arith, count, c.if-nodes-gt-MOST_NODES.true))

pub returns-clause-fits : goal.returns-clause-fits
returns-clause-fits c = all_fit update_value (joined c.args.globals.now) c.as_slice-update-items.result.now c.args.updates.now c.as_slice-update-items.ensures c.requires (λ k some low. c.loop-update.invariant.fits k some (omega (arith, c.loop-update-test.false, low)))

use Rattle.site_store.proofs.Regions.{named_more}
use Rattle.site_store.proofs.layout.named_modes.Goals as goal

pub loop-region-preserved : goal.loop-region-preserved
loop-region-preserved c =
    named_more c.args.regions.now c.loop-region.region-index c.region-item.result c.loop-region.made c.push.new.self (c.in_ok-copy.field-0, c.region-item.result.before) c.loop-region-test.true c.region-item.is c.loop-region.invariant c.in_ok-push.ensures.ok
    (λ i. record { name = c.in_ok-copy.ensures i; before = c.region-item.result.before })

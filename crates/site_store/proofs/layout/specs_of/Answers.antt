use Rattle.site_store.proofs.Regions.{spec_more}
use Rattle.site_store.proofs.layout.specs_of.Goals as goal

pub loop-name-preserved : goal.loop-name-preserved
loop-name-preserved c =
    spec_more c.args.regions.now c.loop-name.name-index c.loop-name-item.result c.loop-name.made.items c.push.new.self.items (record { name = c.in_ok-copy.field-0; before = c.loop-name-item.result.1 }) c.loop-name-test.true c.loop-name-item.is
    c.loop-name.invariant c.in_ok-push.ensures.items (λ i. record { name = c.in_ok-copy.ensures i; before = c.loop-name-item.result.1 })

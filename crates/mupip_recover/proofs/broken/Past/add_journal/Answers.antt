use Rattle.std.proofs.Common.{arith}
use Rattle.jnl_record.specs.Values.{placed_value}
use Rattle.mupip_recover.proofs.BrokenLaws.{journal_more}
use Rattle.mupip_recover.proofs.broken.Past.add_journal.Goals as goal

pub loop-placed-preserved : goal.loop-placed-preserved
loop-placed-preserved c = λ rs cuts.
    journal_more placed_value rs c.args.self.now.site.now c.args.self.now.length c.args.region.now c.args.journal.now c.loop-placed.placed-index c.placed-item.result
    c.args.text.now c.loop-placed.text c.add_placed.new.text (omega arith) c.placed-item.is (c.loop-placed.invariant rs cuts) (c.in_ok-add_placed.ensures rs cuts)

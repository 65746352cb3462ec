use Rattle.std.proofs.Common.{List, take, map}
use Rattle.journal_defs.specs.Instance.{InstanceRecord}
use Rattle.jnl_record.specs.Values.{placed_value}
use Rattle.mupip_recover.specs.Cuts.{AreCuts}
use Rattle.mupip_recover.specs.Broken.{broken_in, Adds}
use Rattle.mupip_recover.proofs.broken.Past.add_journal.Given as goal

abbrev pub invariant-loop-placed : goal.invariant-loop-placed
invariant-loop-placed l = (rs : List InstanceRecord) → AreCuts rs l.self.cuts.now
    → Adds l.self.site.now l.self.length (broken_in rs l.self.length l.region (map placed_value (take l.placed-index l.journal))) l.fn.text l.text

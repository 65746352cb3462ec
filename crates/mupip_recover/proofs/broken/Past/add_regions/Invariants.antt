use Rattle.std.proofs.Common.{List, take, map}
use Rattle.gvn_model.specs.Regions.{named_region}
use Rattle.journal_defs.specs.Instance.{InstanceRecord}
use Rattle.mupip_recover.specs.Cuts.{AreCuts}
use Rattle.mupip_recover.specs.Broken.{broken_of, Adds}
use Rattle.mupip_recover.proofs.broken.Past.add_regions.Given as goal

abbrev pub invariant-loop-place : goal.invariant-loop-place
invariant-loop-place l = (rs : List InstanceRecord) → AreCuts rs l.self.cuts.now
    → Adds l.self.site.now l.self.length (broken_of rs l.self.length (map (λ j. j.items) l.journals) (map named_region (take l.place l.regions))) l.fn.text l.text

use Rattle.std.proofs.Common.{ℕ, List, Bool, map, subst, arith}
use Rattle.std.proofs.lemmas.List.{take_all}
use Rattle.gvn_model.specs.Regions.{named_region}
use Rattle.mupip_recover.specs.Broken.{broken_of, Adds}
use Rattle.mupip_recover.proofs.BrokenLaws.{regions_more}
use Rattle.mupip_recover.proofs.broken.Past.add_regions.Goals as goal

pub loop-place-preserved : goal.loop-place-preserved
loop-place-preserved c = λ rs cuts.
    regions_more rs c.args.self.now.site.now c.args.self.now.length (map (λ j. j.items) c.args.journals.now) c.args.regions.now c.loop-place.place c.index-regions-place.result c.as_slice.result.now
    c.args.text.now c.loop-place.text c.add_region.new.text (omega arith) c.index-regions-place.is c.as_slice.ensures (c.loop-place.invariant rs cuts) (c.in_ok-add_region.ensures rs cuts)

pub returns : goal.returns
returns c = λ rs cuts.
    subst (λ (l : List (List ℕ × Bool)). Adds c.args.self.now.site.now c.args.self.now.length (broken_of rs c.args.self.now.length (map (λ j. j.items) c.args.journals.now) (map named_region l)) c.args.text.now c.loop-place.text)
    (take_all c.loop-place.place c.args.regions.now (omega arith)) (c.loop-place.invariant rs cuts)

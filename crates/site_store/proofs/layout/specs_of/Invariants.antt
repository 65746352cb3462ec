use Rattle.std.proofs.Common.{◌≡◌, take, map}
use Rattle.gvn_model.specs.Regions.{named_region}
use Rattle.site_store.specs.Opening.{region_value}
use Rattle.site_store.proofs.layout.specs_of.Given as goal

abbrev pub invariant-loop-name : goal.invariant-loop-name
invariant-loop-name l = map region_value l.made.items ≡ map named_region (take l.name-index l.regions)

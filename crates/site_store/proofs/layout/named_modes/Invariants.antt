use Rattle.std.proofs.Common.{◌≡◌, take, map}
use Rattle.gvn_model.specs.Regions.{named_region}
use Rattle.site_store.specs.Opening.{region_value}
use Rattle.site_store.proofs.layout.named_modes.Given as goal

abbrev pub invariant-loop-region : goal.invariant-loop-region
invariant-loop-region l = map named_region l.made ≡ map region_value (take l.region-index l.regions)

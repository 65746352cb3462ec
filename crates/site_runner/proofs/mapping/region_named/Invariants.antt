use Rattle.std.proofs.Common.{◌≡◌, take, None}
use Rattle.site_defs.specs.Lists.{first_where}
use Rattle.site_defs.specs.Contents.{same_name}
use Rattle.site_store.specs.declared.layout.RegionSpec.{RegionSpec}
use Rattle.site_runner.proofs.mapping.region_named.Given as goal

abbrev pub invariant-loop-number : goal.invariant-loop-number
invariant-loop-number l = first_where (λ (r : RegionSpec). same_name r.name l.name) (take l.number (take l.count l.found.regions.items)) ≡ None

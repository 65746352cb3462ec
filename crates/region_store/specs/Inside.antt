-- What the fields of regions show.
use Rattle.std.specs.Prelude.{◌≡◌, ◌≤◌, length}
use Rattle.global_defs.specs.declared.limits.TheConstants.{MOST_REGIONS}
use Rattle.region_store.specs.Joined.{Joined, AreJoined}
use Rattle.region_store.specs.declared.regions.Regions.TheInside.{Inside}

abbrev pub regions_of : Inside → Joined
regions_of i = record { patterns = i.directory.patterns; regions = i.regions.items }

pub record IsKept (i : Inside) : Type 0 where
  pub joined : AreJoined (regions_of i)
  pub count : length i.regions.items ≡ i.directory.regions
  pub few : length i.regions.items ≤ MOST_REGIONS

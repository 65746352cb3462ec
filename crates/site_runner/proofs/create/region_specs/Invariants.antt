use Rattle.std.proofs.Common.{◌≡◌, map, take}
use Rattle.site_runner.specs.Creating.{spec_of}
use Rattle.site_runner.proofs.create.region_specs.Given as goal

abbrev pub invariant-loop-name : goal.invariant-loop-name
invariant-loop-name l = l.specs.items ≡ map spec_of (take l.name-index l.regions)

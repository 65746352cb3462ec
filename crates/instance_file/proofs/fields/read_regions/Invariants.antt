use Rattle.std.proofs.Common.{map}
use Rattle.gvn_model.specs.Regions.{named_region}
use Rattle.instance_file.proofs.RegionLists.{GoesOn}
use Rattle.instance_file.proofs.fields.read_regions.Given as goal

-- what is read of the regions that are left completes those so far
abbrev pub invariant-loop : goal.invariant-loop
invariant-loop l = GoesOn l.n l.bytes l.counter (map named_region l.regions) l.rest

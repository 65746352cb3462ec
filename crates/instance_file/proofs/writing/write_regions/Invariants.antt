use Rattle.std.proofs.Common.{◌≡◌, ◌++◌, take, map}
use Rattle.std.specs.List.{flat_map}
use Rattle.gvn_model.specs.Regions.{named_region}
use Rattle.journal_defs.specs.Instance.{spelled_region}
use Rattle.instance_file.proofs.writing.write_regions.Given as goal

-- the regions so far are written
abbrev pub invariant-loop-name : goal.invariant-loop-name
invariant-loop-name l = l.out ≡ l.fn.out ++ flat_map spelled_region (map named_region (take l.name-index l.regions))

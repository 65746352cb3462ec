use Rattle.std.proofs.Common.{◌≡◌, ◌-◌, map}
use Rattle.gvn_model.specs.Regions.{named_region}
use Rattle.command_defs.specs.Commands.{regions_behind}
use Rattle.repl_script.proofs.regions.more_regions.Given as goal

-- what is left goes on behind the regions so far
abbrev pub invariant-loop-count : goal.invariant-loop-count
invariant-loop-count l = regions_behind (8 - l._count) l.len l.rest (map named_region l.regions) ≡ regions_behind 7 l.len l.fn.left (map named_region l.fn.regions)

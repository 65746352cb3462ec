use Rattle.std.proofs.Common.{◌↔◌, drop, map}
use Rattle.global_defs.specs.Rising.{StartsRise}
use Rattle.gvn_model.specs.Reigns.{reign_value}
use Rattle.instance_file.proofs.following.starts_rise.Given as goal

-- all rise where those that are left do
abbrev pub invariant-loop-reign : goal.invariant-loop-reign
invariant-loop-reign l = StartsRise 0 (map reign_value l.reigns) ↔ StartsRise l.low (map reign_value (drop l.reign-index l.reigns))

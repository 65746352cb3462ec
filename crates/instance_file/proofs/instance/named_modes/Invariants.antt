use Rattle.std.proofs.Common.{◌≡◌, take}
use Rattle.instance_file.proofs.instance.named_modes.Given as goal

abbrev pub invariant-loop-name : goal.invariant-loop-name
invariant-loop-name l = l.made ≡ take l.name-index l.regions

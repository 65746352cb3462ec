use Rattle.std.proofs.Common.{◌≡◌, ◌+◌, map, take}
use Rattle.global_defs.specs.declared.limits.TheConstants.{MOST_REIGNS}
use Rattle.global_defs.specs.Rising.{begun_by}
use Rattle.gvn_model.specs.Reigns.{reign_value}
use Rattle.session_handshake.proofs.hello.told_reigns.Given as goal

abbrev pub invariant-loop-reign : goal.invariant-loop-reign
invariant-loop-reign l = l.told ≡ take (MOST_REIGNS + 1) (begun_by l.number (map reign_value (take l.reign-index l.reigns)))

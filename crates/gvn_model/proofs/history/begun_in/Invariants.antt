use Rattle.std.proofs.Common.{◌≡◌, take, map, filter, nat_le}
use Rattle.gvn_model.specs.Reigns.{reign_value}
use Rattle.gvn_model.proofs.history.begun_in.Given as goal

-- those of the first reigns
abbrev pub invariant-loop-reign : goal.invariant-loop-reign
invariant-loop-reign l = l.made ≡ filter (λ r. nat_le r.start l.number) (map reign_value (take l.reign-index l.reigns))

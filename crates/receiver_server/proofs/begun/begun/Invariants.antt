use Rattle.std.proofs.Common.{◌≡◌, ◌≤◌, length, map, take, None}
use Rattle.std.specs.Prelude.{option_map}
use Rattle.std.specs.List.{last_or}
use Rattle.global_defs.specs.Rising.{begun_by}
use Rattle.gvn_model.specs.Reigns.{reign_value}
use Rattle.receiver_server.proofs.begun.begun.Given as goal

abbrev pub invariant-loop-reign : goal.invariant-loop-reign
invariant-loop-reign l = (l.count ≡ length (begun_by l.number (map reign_value (take l.reign-index l.reigns))))
    × (option_map (λ r. reign_value r.now) l.last ≡ last_or None (begun_by l.number (map reign_value (take l.reign-index l.reigns))))
    × (l.count ≤ l.reign-index)

use Rattle.std.proofs.Common.{◌≡◌, ◌++◌, take, map}
use Rattle.std.specs.List.{flat_map}
use Rattle.gvn_model.specs.Reigns.{reign_value}
use Rattle.world_defs.specs.Answers.{line}
use Rattle.world_defs.specs.rows.Show.{reign_text}
use Rattle.site_runner.proofs.showing.write_reigns.Given as goal

abbrev pub invariant-loop-reign : goal.invariant-loop-reign
invariant-loop-reign l = l.text ≡ l.fn.text ++ flat_map (λ r. line l.name (reign_text r)) (map reign_value (take l.reign-index l.reigns))

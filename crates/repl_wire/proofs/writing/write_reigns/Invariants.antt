use Rattle.std.proofs.Common.{◌≡◌, ◌++◌, map, drop}
use Rattle.std.specs.List.{flat_map, AllByRecursion}
use Rattle.global_defs.specs.Fields.{IsReign}
use Rattle.wire_defs.specs.Frames.{spelled_reign}
use Rattle.gvn_model.specs.Reigns.{reign_value}
use Rattle.repl_wire.proofs.writing.write_reigns.Given as goal

abbrev pub invariant-loop-reign : goal.invariant-loop-reign
invariant-loop-reign l = (l.out ++ flat_map spelled_reign (map reign_value (drop l.reign-index l.reigns)) ≡ l.fn.out ++ flat_map spelled_reign (map reign_value l.reigns)) × AllByRecursion IsReign (map reign_value (drop l.reign-index l.reigns))

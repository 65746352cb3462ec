use Rattle.std.proofs.Common.{◌≡◌, ◌+◌, map, drop}
use Rattle.std.specs.List.{AllByRecursion}
use Rattle.global_defs.specs.Fields.{IsReign}
use Rattle.wire_defs.specs.Frames.{spelled_reign}
use Rattle.gvn_model.specs.Reigns.{reign_value}
use Rattle.repl_wire.specs.Totals.{total}
use Rattle.repl_wire.proofs.measuring.reigns_length.Given as goal

abbrev pub invariant-loop-reign : goal.invariant-loop-reign
invariant-loop-reign l = (l.sum + total spelled_reign (map reign_value (drop l.reign-index l.reigns)) ≡ total spelled_reign (map reign_value l.reigns)) × AllByRecursion IsReign (map reign_value (drop l.reign-index l.reigns))

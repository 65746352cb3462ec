use Rattle.std.proofs.Common.{ap}
use Rattle.gvn_globals.specs.Nodes.{globals_of}
use Rattle.gvn_globals.proofs.globals.Globals.new.Goals as goal

pub returns : goal.returns
returns c = ap globals_of c.new.ensures.empty

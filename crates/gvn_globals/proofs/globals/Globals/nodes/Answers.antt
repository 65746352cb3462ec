use Rattle.std.proofs.Common.{sym, ap, ◌∙◌}
use Rattle.std.specs.FinMap as globals
use Rattle.gvn_globals.proofs.Coded.{len_coded}
use Rattle.gvn_globals.proofs.globals.Globals.nodes.Goals as goal

pub returns : goal.returns
returns c = c.len.ensures.len ∙ sym (len_coded c.self.inside.nodes.entries c.len.ensures.ordered c.self.invariant.0) ∙ ap globals.len c.self.view_is

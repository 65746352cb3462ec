use Rattle.std.proofs.Common.{◌≡◌, ◌∙◌, ap, sym, map}
use Rattle.std.specs.FinMap as globals
use Rattle.gvn_globals.specs.Nodes.{entries_of}
use Rattle.gvn_globals.specs.Lists.{listed_value}
use Rattle.gvn_globals.proofs.Basics.{if_ok}
use Rattle.gvn_globals.proofs.Coded.{entries_made, sorted_coded}
use Rattle.gvn_globals.proofs.globals.Globals.list.Goals as goal

pub returns : goal.returns
returns c =
    let es = c.self.inside.nodes.entries in
    let whole = sym (entries_made (entries_of es) (sorted_coded es c.list_all_nodes.ensures.ordered c.self.invariant.0)) ∙ ap globals.entries c.self.view_is in
    if_ok c.list_all_nodes.result _ (λ made. map listed_value made.items ≡ globals.entries c.args.self.now) (λ made h. h ∙ whole) c.list_all_nodes.ensures.list

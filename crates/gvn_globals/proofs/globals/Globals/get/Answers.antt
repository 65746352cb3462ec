use Rattle.std.proofs.Common.{option_map, sym, ap, ◌∙◌, Some}
use Rattle.std.specs.FinMap as globals
use Rattle.std.specs.BTreeMap.{is_at}
use Rattle.std.specs.Map.{lookup}
use Rattle.gvn_globals.specs.Nodes.{node_value}
use Rattle.gvn_globals.proofs.Coded.{get_coded}
use Rattle.gvn_globals.proofs.globals.Globals.get.Goals as goal
use Rattle.global_defs.proofs.Basics.{bytes_cmp}

pub returns-in-Some : goal.returns-in-Some
returns-in-Some c =
    ap (λ v. Some v) c.as_slice.ensures
    ∙ ap (option_map node_value) (c.in-Some.ensures.value ∙ ap (λ q. lookup (is_at (bytes_cmp q)) c.self.inside.nodes.entries) c.code.ensures.value)
    ∙ sym (get_coded c.args.key.now c.self.inside.nodes.entries c.code.ensures.valid c.self.invariant.0)
    ∙ ap (λ m. globals.get m c.args.key.now) c.self.view_is

pub returns-in-None : goal.returns-in-None
returns-in-None c =
    ap (option_map node_value) (c.in-None.ensures.value ∙ ap (λ q. lookup (is_at (bytes_cmp q)) c.self.inside.nodes.entries) c.code.ensures.value)
    ∙ sym (get_coded c.args.key.now c.self.inside.nodes.entries c.code.ensures.valid c.self.invariant.0)
    ∙ ap (λ m. globals.get m c.args.key.now) c.self.view_is

use Rattle.std.proofs.Common.{◌≡◌, option_map, ap, ◌∙◌}
use Rattle.std.specs.Ordering.{is_lt}
use Rattle.std.specs.List.{find}
use Rattle.std.specs.Option.{option_copied}
use Rattle.std.specs.FinMap as globals
use Rattle.global_defs.specs.Encoded.{encoded}
use Rattle.gvn_globals.specs.Nodes.{node_key}
use Rattle.gvn_globals.specs.Walks.{is_behind, sub_under}
use Rattle.gvn_globals.proofs.Coded.{first_key, coded_cmp}
use Rattle.gvn_globals.proofs.Beyond.{order_begins}
use Rattle.gvn_globals.proofs.globals.Globals.past.Goals as goal
use Rattle.global_defs.proofs.Basics.{bytes_cmp}

pub returns : goal.returns
returns c =
    let first : option_map node_key (option_copied c.first_past.result) ≡ find (is_behind c.args.key.now) (globals.keys c.args.self.now) =
    ap (option_map node_key) (c.first_past.ensures.node ∙ ap (λ q. option_map (λ e. e.1) (find (λ e. is_lt (bytes_cmp q e.0)) c.self.inside.nodes.entries)) c.code.ensures.value)
    ∙ first_key (λ d. is_lt (bytes_cmp (encoded c.args.key.now) d)) (is_behind c.args.key.now) c.self.inside.nodes.entries (λ e h. ap is_lt (coded_cmp c.args.key.now e c.code.ensures.valid h)) c.first_past.ensures.ordered c.self.invariant.0
    ∙ ap (λ m. find (is_behind c.args.key.now) (globals.keys m)) c.self.view_is in
    record { first = first; child = ap (sub_under c.args.key.now) first ∙ order_begins c.args.key.now c.args.self.now }

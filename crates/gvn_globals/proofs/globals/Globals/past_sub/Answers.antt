use Rattle.std.proofs.Common.{◌∷◌, [], ◌++◌, is_some, option_map, ap, ◌∙◌}
use Rattle.std.specs.Ordering.{is_lt}
use Rattle.std.specs.List.{find}
use Rattle.std.specs.FinMap as globals
use Rattle.global_defs.specs.Key.{sub_of}
use Rattle.global_defs.specs.Encoded.{encoded, encoded_sub}
use Rattle.gvn_globals.specs.Nodes.{node_key}
use Rattle.gvn_globals.specs.Walks.{is_beyond, sub_under}
use Rattle.gvn_globals.proofs.Coded.{first_key, coded_is, present_valid}
use Rattle.gvn_globals.proofs.Beyond.{order_continues}
use Rattle.gvn_globals.proofs.globals.Globals.past_sub.Goals as goal
use Rattle.global_defs.proofs.Basics.{bytes_cmp}

pub returns : goal.returns
returns c =
    ap (λ o. sub_under c.args.key.now (option_map node_key o)) (c.first_past.ensures.node ∙ ap (λ q. option_map (λ e. e.1) (find (λ e. is_lt (bytes_cmp q e.0)) c.self.inside.nodes.entries)) c.in_ok-past.ensures.value)
    ∙ ap (sub_under c.args.key.now)
    (first_key (λ d. is_lt (bytes_cmp (encoded c.args.key.now ++ encoded_sub (sub_of c.args.sub.now) ++ 255 ∷ []) d)) (is_beyond c.args.key.now (sub_of c.args.sub.now)) c.self.inside.nodes.entries
    (λ e h. ap (λ d. is_lt (bytes_cmp (encoded c.args.key.now ++ encoded_sub (sub_of c.args.sub.now) ++ 255 ∷ []) d)) (coded_is e h)) c.first_past.ensures.ordered c.self.invariant.0
    ∙ ap (λ m. find (is_beyond c.args.key.now (sub_of c.args.sub.now)) (globals.keys m)) c.self.view_is)
    ∙ order_continues c.args.key.now c.args.sub.now c.args.self.now c.requires c.past.ensures.valid
    (λ k s. present_valid k c.self.inside.nodes.entries c.self.invariant.0 (ap (λ m. is_some (globals.get m k)) c.self.view_is ∙ s))

use Rattle.std.proofs.Common.{◌≡◌, option_map, IfOk, ap, subst, ◌∙◌}
use Rattle.std.specs.Ordering.{nat_cmp, eq_by_cmp}
use Rattle.std.specs.Cmp.Lexicographic.{slice_cmp}
use Rattle.std.specs.Option.{option_copied}
use Rattle.gvn_globals.specs.Nodes.{node_key}
use Rattle.gvn_globals.specs.Walks.{tested}
use Rattle.gvn_globals.proofs.Found.{after_found}
use Rattle.gvn_globals.proofs.globals.Globals.after.Goals as goal

pub returns : goal.returns
returns c = subst (λ r. IfOk c.if_named.result (λ found. found ≡ r))
    (ap (λ n. tested (λ k. eq_by_cmp (slice_cmp nat_cmp) n k.name) (option_map node_key (option_copied c.past.result))) c.name.ensures
    ∙ ap (tested (λ k. eq_by_cmp (slice_cmp nat_cmp) c.args.key.now.name k.name)) c.past.ensures.first
    ∙ after_found c.args.self.now c.args.key.now) c.if_named.ensures

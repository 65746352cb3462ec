use Rattle.std.proofs.Common.{◌≡◌, Some, None, option_map, refl, sym, ap, subst, ◌∙◌}
use Rattle.std.specs.Prelude.{IfSome}
use Rattle.std.specs.Ordering.{nat_cmp, eq_by_cmp, is_lt}
use Rattle.std.specs.Cmp.Lexicographic.{slice_cmp}
use Rattle.std.specs.List.{find}
use Rattle.journal_defs.specs.Leaves.{Cell, IsEncoded}
use Rattle.gvn_globals.specs.Walks.{after, tested}
use Rattle.gvt_leaf.specs.Chained.{all_cells}
use Rattle.gvt_leaf.specs.Nodes.{key_in}
use Rattle.gvt_leaf.specs.Stored.{Stored}
use Rattle.gvt_leaf.proofs.Asked.{found_form, key_read, named_past}
use Rattle.gvt_leaf.proofs.Made.{held}
use Rattle.gvt_leaf.proofs.leaves.Leaves.after.Goals as goal

pub key_of-requires : goal.key_of-requires
key_of-requires c =
    subst (λ o. IfSome o IsEncoded) (sym c.in-Some.ensures) (found_form (λ x. is_lt (slice_cmp nat_cmp c.as_encoded.result.now x.0)) (all_cells c.self.inside.chain.leaves) c.self.invariant.forms)

pub returns : goal.returns
returns c =
    let key = c.args.key.now in
    let cells = all_cells c.self.inside.chain.leaves in
    let code = c.in-Some.found.now in
    let past = c.in-Some.ensures ∙ ap (λ k. option_map (λ (x : Cell). x.0) (find (λ x. is_lt (slice_cmp nat_cmp k x.0)) cells)) c.as_encoded.ensures.value in
    let named : c.if_named.result ≡ tested (λ k. eq_by_cmp (slice_cmp nat_cmp) key.name k.name) (option_map key_in (Some code)) =
    c.if_named.ensures ∙ ap (λ n. tested (λ k. eq_by_cmp (slice_cmp nat_cmp) n k.name) (Some c.in_ok-found.found)) c.name.ensures
    ∙ ap (λ q. tested (λ k. eq_by_cmp (slice_cmp nat_cmp) key.name k.name) (Some q)) (sym (key_read code c.in_ok-found.found c.in_ok-found.ensures.code c.in_ok-found.ensures.valid)) in
    named_past cells (held c.self.inside c.self.invariant) key c.as_encoded.ensures.valid (Some code) c.if_named.result past named ∙ ap (λ (s : Stored). after s.globals key) c.self.view_is

pub returns-in_default : goal.returns-in_default
returns-in_default c =
    let key = c.args.key.now in
    let cells = all_cells c.self.inside.chain.leaves in
    let past = c.in_default.ensures ∙ ap (λ k. option_map (λ (x : Cell). x.0) (find (λ x. is_lt (slice_cmp nat_cmp k x.0)) cells)) c.as_encoded.ensures.value in
    named_past cells (held c.self.inside c.self.invariant) key c.as_encoded.ensures.valid None None past refl ∙ ap (λ (s : Stored). after s.globals key) c.self.view_is

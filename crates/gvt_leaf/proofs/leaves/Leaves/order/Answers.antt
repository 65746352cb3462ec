use Rattle.std.proofs.Common.{◌≡◌, ◌<◌, List, [], ◌∷◌, ℕ, length, option_map, refl, sym, ap, subst, ◌∙◌, arith}
use Rattle.std.specs.Prelude.{IfSome}
use Rattle.std.specs.Ordering.{nat_cmp, is_lt}
use Rattle.std.specs.Cmp.Lexicographic.{slice_cmp}
use Rattle.std.specs.List.{find}
use Rattle.std.specs.Option.{option_copied}
use Rattle.std.proofs.lemmas.Bool.{eqb-true, eqb-false}
use Rattle.global_defs.specs.Key.{sub_of}
use Rattle.global_defs.specs.Evaluation.{order}
use Rattle.journal_defs.specs.Leaves.{Cell, IsEncoded}
use Rattle.gvn_globals.specs.Walks.{sub_under}
use Rattle.gvn_globals.proofs.Basics.{if_ok}
use Rattle.gvt_leaf.specs.Chained.{all_cells}
use Rattle.gvt_leaf.specs.Nodes.{key_in}
use Rattle.gvt_leaf.specs.Stored.{Stored}
use Rattle.gvt_leaf.proofs.Asked.{found_form, begins_past, continues_past}
use Rattle.gvt_leaf.proofs.Made.{held}
use Rattle.gvt_leaf.proofs.leaves.Leaves.order.Goals as goal

nothing : (xs : List ℕ) → length xs ≡ 0 → xs ≡ []
nothing [] h = refl
nothing (x ∷ xs) h = absurd (omega arith)

pub sub_below-requires : goal.sub_below-requires
sub_below-requires c =
    subst (λ o. IfSome o IsEncoded) (sym c.first_past.ensures) (found_form (λ x. is_lt (slice_cmp nat_cmp c.as_encoded.result.now x.0)) (all_cells c.self.inside.chain.leaves) c.self.invariant.forms)

pub returns-then-is_empty-clause-next : goal.returns-then-is_empty-clause-next
returns-then-is_empty-clause-next c =
    let key = c.args.key.now in
    let cells = all_cells c.self.inside.chain.leaves in
    let found = option_copied c.first_past.result in
    let past = c.first_past.ensures ∙ ap (λ k. option_map (λ (x : Cell). x.0) (find (λ x. is_lt (slice_cmp nat_cmp k x.0)) cells)) c.as_encoded.ensures.value in
    let none : c.args.last.now ≡ [] = nothing c.args.last.now (eqb-true (length c.args.last.now) 0 (sym c.is_empty.ensures ∙ c.if-is_empty.true)) in
    let whole : sub_under key (option_map key_in found) ≡ order c.args.self.now.globals key c.args.last.now =
    begins_past cells (held c.self.inside c.self.invariant) key c.as_encoded.ensures.valid found past ∙ ap (λ (s : Stored). order s.globals key []) c.self.view_is ∙ ap (order c.args.self.now.globals key) (sym none) in
    if_ok c.sub_below.result (λ sub. option_map sub_of sub ≡ sub_under key (option_map key_in found)) (λ sub. option_map sub_of sub ≡ order c.args.self.now.globals key c.args.last.now) (λ sub h. h ∙ whole) c.sub_below.ensures.next

pub sub_below-requires-else-is_empty : goal.sub_below-requires-else-is_empty
sub_below-requires-else-is_empty c =
    subst (λ o. IfSome o IsEncoded) (sym c.first_past-else-is_empty.ensures) (found_form (λ x. is_lt (slice_cmp nat_cmp c.as_slice.result.now x.0)) (all_cells c.self.inside.chain.leaves) c.self.invariant.forms)

pub returns-in_ok-past-clause-next : goal.returns-in_ok-past-clause-next
returns-in_ok-past-clause-next c =
    let key = c.args.key.now in
    let cells = all_cells c.self.inside.chain.leaves in
    let found = option_copied c.first_past-else-is_empty.result in
    let some : 0 < length c.args.last.now = omega (arith, eqb-false (length c.args.last.now) 0 (sym c.is_empty.ensures ∙ c.if-is_empty.false)) in
    let whole : sub_under key (option_map key_in found) ≡ order c.args.self.now.globals key c.args.last.now =
    continues_past cells (held c.self.inside c.self.invariant) key c.past.ensures.valid found c.args.last.now c.as_slice.result.now some (c.as_slice.ensures ∙ c.in_ok-past.ensures.value) c.first_past-else-is_empty.ensures
    ∙ ap (λ (s : Stored). order s.globals key c.args.last.now) c.self.view_is in
    if_ok c.sub_below-else-is_empty.result (λ sub. option_map sub_of sub ≡ sub_under key (option_map key_in found)) (λ sub. option_map sub_of sub ≡ order c.args.self.now.globals key c.args.last.now) (λ sub h. h ∙ whole) c.sub_below-else-is_empty.ensures.next

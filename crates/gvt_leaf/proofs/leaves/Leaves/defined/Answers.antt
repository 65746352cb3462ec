use Rattle.std.proofs.Common.{◌≡◌, ◌+◌, is_some, option_map, if◌then◌else◌, sym, ap, subst, ◌∙◌, arith}
use Rattle.std.specs.Prelude.{IfSome}
use Rattle.std.specs.Ordering.{nat_cmp, is_lt}
use Rattle.std.specs.Cmp.Lexicographic.{slice_cmp}
use Rattle.std.specs.List.{find, list_any}
use Rattle.std.specs.Option.{option_copied}
use Rattle.std.specs.FinMap as globals
use Rattle.global_defs.specs.Entry.{is_under}
use Rattle.global_defs.specs.Evaluation.{is_below}
use Rattle.journal_defs.specs.Leaves.{Cell, IsEncoded}
use Rattle.gvn_globals.specs.Walks.{tested}
use Rattle.gvn_globals.proofs.Found.{below_found}
use Rattle.gvt_leaf.specs.Chained.{all_cells}
use Rattle.gvt_leaf.specs.Links.{one_if}
use Rattle.gvt_leaf.specs.Nodes.{globals_in}
use Rattle.gvt_leaf.specs.Stored.{Stored}
use Rattle.gvt_leaf.proofs.Asked.{found_form, tested_codes, past_key}
use Rattle.gvt_leaf.proofs.Counted.{byte_is, copied_some, small_sum}
use Rattle.gvt_leaf.proofs.Made.{held}
use Rattle.gvt_leaf.proofs.leaves.Leaves.defined.Goals as goal

pub overflow_add-result : goal.overflow_add-result
overflow_add-result c = omega (arith, small_sum _ _ c.from.result c.tens.result (c.from.ensures ∙ byte_is c.is_some.result) c.tens.ensures)

pub returns : goal.returns
returns c =
    let key = c.args.key.now in
    let cells = all_cells c.self.inside.chain.leaves in
    let found = option_copied c.first_past.result in
    let valid = c.as_encoded.ensures.valid in
    let form : IfSome found IsEncoded =
    subst (λ o. IfSome o IsEncoded) (sym c.first_past.ensures) (found_form (λ x. is_lt (slice_cmp nat_cmp c.as_encoded.result.now x.0)) cells c.self.invariant.forms) in
    let past = c.first_past.ensures ∙ ap (λ k. option_map (λ (x : Cell). x.0) (find (λ x. is_lt (slice_cmp nat_cmp k x.0)) cells)) c.as_encoded.ensures.value in
    let own : c.from.result ≡ (if globals.contains_key c.args.self.now.globals key then 1 else 0) =
    c.from.ensures ∙ byte_is c.is_some.result ∙ ap one_if (c.is_some.ensures ∙ copied_some c.get.result ∙ ap is_some c.get.ensures) in
    let below : c.tens.result ≡ (if list_any (is_below key) (globals.keys c.args.self.now.globals) then 10 else 0) =
    c.tens.ensures
    ∙ ap (λ t. if t then 10 else 0) (tested_codes key found valid form ∙ ap (λ o. is_some (tested (is_under key) o)) (past_key cells (held c.self.inside c.self.invariant) key valid found past) ∙ below_found (globals_in cells) key)
    ∙ ap (λ (s : Stored). if list_any (is_below key) (globals.keys s.globals) then 10 else 0) c.self.view_is in
    ap (λ n. n + c.tens.result) own ∙ ap (λ n. (if globals.contains_key c.args.self.now.globals key then 1 else 0) + n) below

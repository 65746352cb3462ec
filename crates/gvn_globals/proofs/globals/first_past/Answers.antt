use Rattle.std.proofs.Common.{◌&&◌, true, sym, ap, ◌∙◌, option_map}
use Rattle.std.specs.Ordering.{is_lt, nat_cmp}
use Rattle.std.specs.Cmp.Lexicographic.{slice_cmp}
use Rattle.gvn_globals.proofs.Basics.{find_filtered, and_true}
use Rattle.gvn_globals.proofs.globals.first_past.Goals as goal

pub returns-in-Some-clause-node : goal.returns-in-Some-clause-node
returns-in-Some-clause-node c = sym (ap (option_map (λ e. e.1))
    (find_filtered (λ e. is_lt (slice_cmp nat_cmp c.args.code.now e.0)) (λ e. is_lt (slice_cmp nat_cmp c.args.code.now e.0) && true) (λ e. and_true (is_lt (slice_cmp nat_cmp c.args.code.now e.0)))
    c.args.nodes.now.entries _ (sym c.in-Some.ensures.steps ∙ c.range.ensures.between tt)))

pub returns-in-None-clause-node : goal.returns-in-None-clause-node
returns-in-None-clause-node c = sym (ap (option_map (λ e. e.1))
    (find_filtered (λ e. is_lt (slice_cmp nat_cmp c.args.code.now e.0)) (λ e. is_lt (slice_cmp nat_cmp c.args.code.now e.0) && true) (λ e. and_true (is_lt (slice_cmp nat_cmp c.args.code.now e.0)))
    c.args.nodes.now.entries _ (sym c.in-None.ensures.steps.0 ∙ c.range.ensures.between tt)))

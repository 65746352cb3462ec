use Rattle.std.proofs.Common.{◌≡◌, ◌∷◌, [], ◌++◌, ◌∙◌, ap, sym, map, filter}
use Rattle.std.specs.Ordering.{nat_cmp}
use Rattle.std.specs.Cmp.Lexicographic.{slice_cmp}
use Rattle.std.specs.FinMap as globals
use Rattle.global_defs.specs.Encoded.{encoded}
use Rattle.global_defs.specs.Entry.{is_under}
use Rattle.gvn_globals.specs.Nodes.{entries_of, is_between}
use Rattle.gvn_globals.specs.Lists.{listed_value}
use Rattle.gvn_globals.proofs.Basics.{if_ok}
use Rattle.gvn_globals.proofs.Beyond.{end_behind_code, under_codes}
use Rattle.gvn_globals.proofs.Coded.{entries_made, sorted_coded, kept_filtered}
use Rattle.gvn_globals.proofs.globals.Globals.list_under.Goals as goal

pub list_between-requires : goal.list_between-requires
list_between-requires c =
    ap (λ a. slice_cmp nat_cmp a c.push.new.self) c.code-2.ensures.value
    ∙ ap (slice_cmp nat_cmp (encoded c.args.top.now)) (c.in_ok-push.ensures.ok ∙ ap (λ e. e ++ 255 ∷ []) (c.in_ok-end.ensures ∙ c.code.ensures.value))
    ∙ end_behind_code (encoded c.args.top.now)

pub returns : goal.returns
returns c =
    let es = c.self.inside.nodes.entries in
    let end : c.push.new.self ≡ encoded c.args.top.now ++ 255 ∷ [] = c.in_ok-push.ensures.ok ∙ ap (λ e. e ++ 255 ∷ []) (c.in_ok-end.ensures ∙ c.code.ensures.value) in
    let whole : filter (λ e. is_under c.args.top.now e.0) (map listed_value c.deref.result.now) ≡ filter (λ e. is_under c.args.top.now e.0) (globals.entries c.args.self.now) =
    ap (λ l. filter (λ e. is_under c.args.top.now e.0) (map listed_value l)) c.deref.ensures.value
    ∙ ap (filter (λ e. is_under c.args.top.now e.0)) c.in_ok-list.ensures.list
    ∙ ap (λ a. filter (λ e. is_under c.args.top.now e.0) (entries_of (filter (λ e. is_between a c.push.new.self e.0) es))) c.code-2.ensures.value
    ∙ ap (λ b. filter (λ e. is_under c.args.top.now e.0) (entries_of (filter (λ e. is_between (encoded c.args.top.now) b e.0) es))) end
    ∙ kept_filtered (is_between (encoded c.args.top.now) (encoded c.args.top.now ++ 255 ∷ [])) (is_under c.args.top.now) (under_codes c.args.top.now) es c.self.invariant.0
    ∙ ap (filter (λ e. is_under c.args.top.now e.0)) (sym (entries_made (entries_of es) (sorted_coded es c.in_ok-list.ensures.ordered c.self.invariant.0)) ∙ ap globals.entries c.self.view_is) in
    if_ok c.only_under.result _ (λ made. map listed_value made.items ≡ filter (λ e. is_under c.args.top.now e.0) (globals.entries c.args.self.now)) (λ made h. h ∙ whole) c.only_under.ensures

use Rattle.std.proofs.Common.{◌≡◌, option_map, sym, ap, subst, ◌∙◌}
use Rattle.std.specs.Prelude.{IfSome}
use Rattle.std.specs.Option.{option_copied}
use Rattle.global_defs.specs.Key.{sub_of}
use Rattle.journal_defs.specs.Leaves.{IsEncoded}
use Rattle.gvn_key.specs.Decoding.{sub_below}
use Rattle.gvn_globals.specs.Walks.{sub_under}
use Rattle.gvn_globals.proofs.Basics.{if_ok}
use Rattle.gvt_leaf.specs.Nodes.{key_in}
use Rattle.gvt_leaf.proofs.Asked.{key_read}
use Rattle.gvt_leaf.proofs.leaves.sub_below.Goals as goal

pub next_sub-requires : goal.next_sub-requires
next_sub-requires c = subst (λ o. IfSome (option_copied o) IsEncoded) c.in-Some.is c.requires

pub returns-in-Some-clause-next : goal.returns-in-Some-clause-next
returns-in-Some-clause-next c =
    let top = c.args.top.now in
    let code = c.in-Some.code.now in
    let form : IsEncoded code = subst (λ o. IfSome (option_copied o) IsEncoded) c.in-Some.is c.requires in
    let key = form.0 in
    let read = key_read code key (sym form.2) form.1 in
    let whole : sub_under top (option_map key_in (option_copied c.args.found)) ≡ sub_below top key = ap (λ o. sub_under top (option_map key_in (option_copied o))) c.in-Some.is ∙ ap (sub_below top) read in
    if_ok c.next_sub.result (λ sub. option_map sub_of sub ≡ sub_below top key) (λ sub. option_map sub_of sub ≡ sub_under top (option_map key_in (option_copied c.args.found)))
    (λ sub h. h ∙ sym whole) (c.next_sub.ensures.next key form.1 (sym form.2))

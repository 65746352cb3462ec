use Rattle.std.proofs.Common.{◌≡◌, ◌∙◌, ◌++◌, ◌∷◌, [], ◌==◌, length, sym, ap, false, append_assoc}
use Rattle.std.proofs.lemmas.Result.{on_ok_weaker}
use Rattle.std.proofs.lemmas.Bool.{ne_eqb}
use Rattle.global_defs.specs.NodeText.{node_text}
use Rattle.gvn_text.proofs.LevelLaws.{above_written}
use Rattle.gvn_text.proofs.write.push_above.Goals as goal

pub returns : goal.returns
returns c =
    let whole : c.as_slice-2.result.now ≡ node_text c.args.key.now = cc (c.as_slice-2.ensures, c.in_ok-write.ensures.ok, c.new-node.ensures) in
    let some : (length c.args.key.now.subs == 0) ≡ false = ne_eqb (length c.args.key.now.subs) 0 (λ e. c.if-depth-eq0.false (c.depth.ensures ∙ e)) in
    on_ok_weaker c.push_all-3.result (λ e. e
    ∙ ap (λ x. x ++ (44 ∷ [])) (c.in_ok-push_all-2.ensures.ok ∙ ap (λ x. c.args.out.now ++ x) c.without_last.ensures)
    ∙ append_assoc c.args.out.now _ (44 ∷ [])
    ∙ ap (λ x. c.args.out.now ++ x) (above_written c.args.key.now c.as_slice-2.result.now some whole)) c.push_all-3.ensures.ok

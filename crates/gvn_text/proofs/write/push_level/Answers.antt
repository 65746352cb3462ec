use Rattle.std.proofs.Common.{◌∙◌, ◌++◌, ◌∷◌, [], codes, sym, ap}
use Rattle.std.proofs.lemmas.Result.{on_ok_weaker}
use Rattle.global_defs.specs.Key.{sub_of}
use Rattle.global_defs.specs.NodeText.{sub_text}
use Rattle.script_defs.specs.Statements.{text_above}
use Rattle.script_defs.proofs.StatementsWritten.{level_text}
use Rattle.gvn_text.proofs.LevelLaws.{four_pieces}
use Rattle.gvn_text.proofs.write.push_level.Goals as goal

pub returns : goal.returns
returns c =
    let s = sub_text (sub_of c.args.last.now) in
    on_ok_weaker c.push_all-2.result (λ e. e
    ∙ ap (λ x. x ++ (41 ∷ [])) (c.in_ok-push_sub.ensures ∙ (λ i. (c.in_ok-push_above.ensures ∙ ap (λ x. x ++ text_above c.args.key.now) c.in_ok-push_all.ensures.ok) i ++ sub_text (sub_of (c.as_slice.ensures i))))
    ∙ four_pieces c.args.out.now (codes "ORDER ") (text_above c.args.key.now) s (41 ∷ [])
    ∙ ap (λ x. c.args.out.now ++ (codes "ORDER " ++ x)) (sym (level_text c.args.key.now (sub_of c.args.last.now)))) c.push_all-2.ensures.ok

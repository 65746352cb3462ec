use Rattle.std.proofs.Common.{◌≡◌, ◌∙◌, ◌++◌, sym, ap, true}
use Rattle.std.proofs.lemmas.Result.{on_ok_weaker}
use Rattle.global_defs.specs.Numeral.{is_number}
use Rattle.global_defs.specs.Key.{sub_of}
use Rattle.global_defs.specs.NodeText.{sub_text}
use Rattle.global_defs.proofs.Numerals.{number_back}
use Rattle.gvn_key.proofs.key.push_sub_text.Goals as goal

pub returns-then-is_number : goal.returns-then-is_number
returns-then-is_number c =
    let test : is_number c.args.sub.now ≡ true = sym c.is_number.ensures ∙ c.if-is_number.true in
    let same : c.args.sub.now ≡ sub_text (sub_of c.args.sub.now) = rw test (sym (number_back c.args.sub.now test)) in
    on_ok_weaker c.push_all.result (λ e. e ∙ ap (λ t. c.args.out.now ++ t) same) c.push_all.ensures.ok

use Rattle.std.proofs.Common.{◌∙◌, sym}
use Rattle.std.proofs.lemmas.Result.{IfOk-weaker}
use Rattle.gvn_key.proofs.Decoded.{nothing_escaped}
use Rattle.gvn_key.proofs.decode.unescaped.Goals as goal

pub returns-then-has_no_escapes : goal.returns-then-has_no_escapes
returns-then-has_no_escapes c = IfOk-weaker c.of.result _ _ (λ _ e. e ∙ sym (nothing_escaped c.args.bytes.now (sym c.has_no_escapes.ensures ∙ c.if-has_no_escapes.true))) c.of.ensures

use Rattle.std.proofs.Common.{◌∙◌, ◌++◌, List, ℕ, sym, ap}
use Rattle.std.proofs.lemmas.Result.{on_ok_weaker}
use Rattle.global_defs.specs.Zwr.{zwr}
use Rattle.gvn_key.proofs.Decoded.{nothing_escaped}
use Rattle.gvn_key.proofs.subs_text.push_string.Goals as goal

pub returns-then-has_no_escapes : goal.returns-then-has_no_escapes
returns-then-has_no_escapes c =
    on_ok_weaker c.push_zwr.result (λ e. e ∙ ap (λ (t : List ℕ). c.args.out.now ++ zwr t) (sym (nothing_escaped c.args.bytes.now (sym c.has_no_escapes.ensures ∙ c.if-has_no_escapes.true)))) c.push_zwr.ensures

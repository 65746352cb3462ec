use Rattle.std.proofs.Common.{sym, ◌∙◌, arith}
use Rattle.gvn_key.proofs.CodeParts.{name_found}
use Rattle.gvn_key.proofs.name.name_len.Goals as goal

pub returns-then-rest-others-eq0-clause-name : goal.returns-then-rest-others-eq0-clause-name
returns-then-rest-others-eq0-clause-name c =
    name_found c.args.bytes.now c.in_ok-others-in-len1-up.others c.in-len1-up.len_at_least (sym c.in_ok-others-in-len1-up.ensures.place) (sym c.begins_name.ensures ∙ c.if-begins_name.true) (omega (arith, c.if-others-le-MOST_OTHERS.true)) c.if-rest-others-eq0.true

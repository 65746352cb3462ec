use Rattle.std.proofs.Common.{sym, ap, ◌∙◌}
use Rattle.std.proofs.lemmas.Result.{IfOk-weaker}
use Rattle.global_defs.specs.Encoded.{encoded}
use Rattle.global_defs.specs.Valid.{is_key}
use Rattle.gvn_key.proofs.Kept.{kept, read_known}
use Rattle.gvn_key.proofs.key.Key.of_code.Goals as goal

pub made-requires : goal.made-requires
made-requires c = kept c.in_ok-of.field-0 (c.requires.0, c.requires.1, c.in_ok-of.ensures ∙ c.requires.2)

pub returns-clause-code : goal.returns-clause-code
returns-clause-code c =
    let is = read_known c.in_ok-of.field-0 c.requires.0 c.requires.1 (c.in_ok-of.ensures ∙ c.requires.2) in
    IfOk-weaker c.made.result _ _ (λ _ e. ap encoded (e ∙ is) ∙ sym c.requires.2) c.made.ensures

pub returns-clause-valid : goal.returns-clause-valid
returns-clause-valid c =
    let is = read_known c.in_ok-of.field-0 c.requires.0 c.requires.1 (c.in_ok-of.ensures ∙ c.requires.2) in
    IfOk-weaker c.made.result _ _ (λ _ e. ap is_key (e ∙ is) ∙ c.requires.1) c.made.ensures

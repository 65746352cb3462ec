use Rattle.std.proofs.Common.{ℕ, Some, sym, ap, ◌∙◌}
use Rattle.global_defs.proofs.ValidKeys.{valid_parts}
use Rattle.gvn_key.proofs.KeyRead.{end_known, subs_known}
use Rattle.gvn_key.proofs.key.Key.subs_code.Goals as goal

pub returns-clause-value : goal.returns-clause-value
returns-clause-value c =
    let key = c.args.self.now in
    let bytes = c.as_encoded.result.now in
    let valid = c.as_encoded.ensures.valid in
    let is = sym c.as_encoded.ensures.value in
    sym (subs_known bytes c.name_end-end.result key (end_known bytes key valid is ∙ ap (λ (n : ℕ). Some n) (sym c.name_end-end.ensures.end)) valid is)

pub returns-clause-valid : goal.returns-clause-valid
returns-clause-valid c = (valid_parts c.args.self.now c.as_encoded.ensures.valid).subs

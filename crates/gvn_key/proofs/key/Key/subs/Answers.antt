use Rattle.std.proofs.Common.{map, sym, ap, ◌∙◌}
use Rattle.global_defs.specs.Key.{sub_of}
use Rattle.global_defs.proofs.NumberValue.{subs_back}
use Rattle.gvn_key.proofs.KeyRead.{none_fit, these_fit}
use Rattle.gvn_key.proofs.key.Key.subs.Goals as goal

pub returns : goal.returns
returns c =
    ap (map sub_of) (these_fit _ c.in_ok-subs.field-0 (λ t. t.items) c.in-Some.subs c.in-Some.is c.in_ok-subs.ensures c.args.self.now.subs c.subs_code.ensures.valid (sym c.subs_code.ensures.value))
    ∙ subs_back c.args.self.now.subs c.subs_code.ensures.valid

pub unreachable-requires : goal.unreachable-requires
unreachable-requires c = none_fit _ c.in_ok-subs.field-0 (λ t. t.items) c.in-None.is c.in_ok-subs.ensures c.args.self.now.subs c.subs_code.ensures.valid (sym c.subs_code.ensures.value)

use Rattle.std.proofs.Common.{◌∙◌, nat_eq}
use Rattle.std.specs.List.{starts_with}
use Rattle.global_defs.proofs.KeyOrder.{key_begins}
use Rattle.gvn_key.proofs.key.Key.is_under.Goals as goal

pub returns : goal.returns
returns c =
    c.starts_with.ensures.value
    ∙ (λ i. starts_with nat_eq (c.as_encoded.ensures.value i) (c.as_encoded-2.ensures.value i))
    ∙ key_begins c.args.top.now c.args.self.now c.as_encoded-2.ensures.valid c.as_encoded.ensures.valid

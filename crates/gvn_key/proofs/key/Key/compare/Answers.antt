use Rattle.std.proofs.Common.{◌∙◌, nat_cmp}
use Rattle.std.specs.Cmp.Lexicographic.{slice_cmp}
use Rattle.global_defs.proofs.KeyOrder.{key_ordered}
use Rattle.gvn_key.proofs.key.Key.compare.Goals as goal

pub returns : goal.returns
returns c =
    c.compare_bytes.ensures
    ∙ (λ i. slice_cmp nat_cmp (c.as_encoded.ensures.value i) (c.as_encoded-2.ensures.value i))
    ∙ key_ordered c.args.self.now c.args.other.now c.as_encoded.ensures.valid c.as_encoded-2.ensures.valid

use Rattle.std.proofs.Common.{◌∷◌, take, ◌∙◌}
use Rattle.std.specs.List.{flat_map}
use Rattle.std.proofs.Math.Seq.{take-append_seam}
use Rattle.global_defs.specs.Encoded.{encoded_sub}
use Rattle.gvn_key.proofs.key.Key.name.Goals as goal

pub returns : goal.returns
returns c = (λ i. take (c.name_end-end.ensures.end i) (c.as_encoded.ensures.value i)) ∙ take-append_seam c.args.self.now.name (0 ∷ flat_map encoded_sub c.args.self.now.subs)

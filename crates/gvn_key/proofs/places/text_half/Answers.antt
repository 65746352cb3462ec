use Rattle.std.proofs.Common.{nat_lt, refl, arith}
use Rattle.std.proofs.lemmas.Simd.{zip2_splat, length-chunk}
use lib.Lanes.{chunk}
use Rattle.gvn_key.proofs.Lanes.{first_in}
use Rattle.gvn_key.proofs.places.text_half.Goals as goal

pub returns : goal.returns
returns c =
    let v = chunk c.args.at 4 c.args.bytes.now in
    let long = length-chunk c.args.at 4 c.args.bytes.now c.requires in
    first_in (λ b. nat_lt b 2) c.args.bytes.now c.args.at 4 _ _ c.requires (omega arith) c.type_inv.bytes c.first_set.ensures _ (zip2_splat _ v 4 2 long) refl

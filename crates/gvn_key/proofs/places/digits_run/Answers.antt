use Rattle.std.proofs.Common.{ℕ, leb, cond, not, refl, arith}
use Rattle.std.proofs.lemmas.Simd.{zip2_splat, length-chunk}
use Rattle.std.specs.Char.{is_ascii_digit}
use lib.Lanes.{chunk}
use Rattle.gvn_key.proofs.Lanes.{joined, splat_is, first_in}
use Rattle.gvn_key.proofs.places.digits_run.Goals as goal

pub returns : goal.returns
returns c =
    let v = chunk c.args.at 8 c.args.bytes.now in
    let long = length-chunk c.args.at 8 c.args.bytes.now c.requires in
    first_in (λ b. not (is_ascii_digit b)) c.args.bytes.now c.args.at 8 _ _ c.requires (omega arith) c.type_inv.bytes c.first_set.ensures _
    (joined (λ a b. cond (leb a b) 255 0) _ _ v (splat_is v 8 10 long) (zip2_splat {Y = ℕ} _ v 8 48 long)) refl

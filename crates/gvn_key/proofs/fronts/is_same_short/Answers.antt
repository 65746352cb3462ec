use Rattle.std.proofs.Common.{◌≡◌, ◌+◌, ◌-◌, take, subst, arith, refl}
use Rattle.std.proofs.lemmas.Bool.{eqb-true}
use Rattle.gvn_key.proofs.Spelled.{same_half, same_less}
use Rattle.gvn_key.proofs.Splits.{of_test}
use Rattle.gvn_key.proofs.fronts.is_same_short.Goals as goal

pub returns : goal.returns
returns c =
    let n = c.args.n in
    let long = c.requires.long in
    let short = c.requires.short in
    let one = c.requires.one in
    let other = c.requires.other in
    let all : n - 4 + 4 ≡ n = omega (arith, long) in
    of_test _ _ (λ same.
    subst (λ k. take k c.args.one.now ≡ take k c.args.other.now) all
    (same_half c.args.one.now c.args.other.now (n - 4) c.half_at-3.result c.half_at-4.result (λ i. omega (arith, c.type_inv.one i)) (λ i. omega (arith, c.type_inv.other i)) (omega (arith, all, one)) (omega (arith, all, other))
    c.half_at-3.ensures c.half_at-4.ensures (eqb-true c.half_at-3.result c.half_at-4.result same)
    (same_less c.args.one.now c.args.other.now (n - 4) 4 (omega (arith, short))
    (same_half c.args.one.now c.args.other.now 0 c.half_at.result c.half_at-2.result (λ i. omega (arith, c.type_inv.one i)) (λ i. omega (arith, c.type_inv.other i)) (omega (arith, long, one)) (omega (arith, long, other))
    c.half_at.ensures c.half_at-2.ensures c.if-half_at.false refl))))

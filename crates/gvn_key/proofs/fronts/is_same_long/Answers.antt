use Rattle.std.proofs.Common.{◌≡◌, ◌+◌, ◌*◌, ◌-◌, ◌≤◌, take, subst, arith, refl}
use Rattle.std.proofs.lemmas.Bool.{eqb-true}
use Rattle.gvn_key.proofs.Spelled.{same_word, same_less}
use Rattle.gvn_key.proofs.Splits.{of_test}
use Rattle.gvn_key.proofs.fronts.is_same_long.Goals as goal

pub loop-i-init : goal.loop-i-init
loop-i-init c = refl

pub loop-i-preserved : goal.loop-i-preserved
loop-i-preserved c =
    let at = c.loop-i.i * 8 in
    let next : at + 8 ≡ (c.loop-i.i + 1) * 8 = omega arith in
    let long = c.requires.long in
    let one = c.requires.one in
    let other = c.requires.other in
    let few : at + 8 ≤ c.args.n = omega (arith, c.loop-i-test.true, long) in
    subst (λ k. take k c.args.one.now ≡ take k c.args.other.now) next
    (same_word c.args.one.now c.args.other.now at c.word_at.result c.word_at-in-loop-i.result (λ i. omega (arith, c.type_inv.one i)) (λ i. omega (arith, c.type_inv.other i)) (omega (arith, few, one)) (omega (arith, few, other))
    c.word_at.ensures c.word_at-in-loop-i.ensures c.if-word_at.false c.loop-i.invariant)

pub returns : goal.returns
returns c =
    let n = c.args.n in
    let at = n - 8 in
    let long = c.requires.long in
    let one = c.requires.one in
    let other = c.requires.other in
    let all : at + 8 ≡ n = omega (arith, long) in
    let low : at ≤ c.loop-i.i * 8 = omega (arith, c.loop-i-test.false, long) in
    of_test _ _ (λ same.
    subst (λ k. take k c.args.one.now ≡ take k c.args.other.now) all
    (same_word c.args.one.now c.args.other.now at c.word_at-2.result c.word_at-3.result (λ i. omega (arith, c.type_inv.one i)) (λ i. omega (arith, c.type_inv.other i)) (omega (arith, all, one)) (omega (arith, all, other))
    c.word_at-2.ensures c.word_at-3.ensures (eqb-true c.word_at-2.result c.word_at-3.result same) (same_less c.args.one.now c.args.other.now at (c.loop-i.i * 8) low c.loop-i.invariant)))

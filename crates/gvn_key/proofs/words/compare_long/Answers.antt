use Rattle.std.proofs.Common.{◌≡◌, ◌∙◌, ℕ, ◌+◌, ◌*◌, ◌-◌, ◌≤◌, List, length, take, drop, subst, sym, arith}
use Rattle.std.specs.Ordering.{nat_cmp}
use Rattle.std.specs.Cmp.Lexicographic.{slice_cmp}
use Rattle.gvn_key.proofs.Spelled.{same_word, by_word, decided, tied, last_word}
use Rattle.gvn_key.proofs.words.compare_long.Goals as goal

pub returns-then-left-right : goal.returns-then-left-right
returns-then-left-right c =
    let one : List ℕ = c.args.one.now in
    let other : List ℕ = c.args.other.now in
    let at : ℕ = c.loop-i.i * 8 in
    let m : ℕ = c.word_at-left.result in
    let n : ℕ = c.word_at-right.result in
    let long = c.requires.long in
    let all = c.requires.all in
    let few : at + 8 ≤ c.args.n = omega (arith, c.loop-i-test.true, long) in
    c.cmp.ensures
    ∙ sym (by_word one other at m n (λ i. omega (arith, c.type_inv.one i)) (λ i. omega (arith, c.type_inv.other i)) (omega (arith, few, all)) (omega (arith, few, all)) c.word_at-left.ensures c.word_at-right.ensures c.loop-i.invariant
    ∙ decided m n (slice_cmp nat_cmp (drop 8 (drop at one)) (drop 8 (drop at other))) c.if-left-right.true)

pub loop-i-preserved : goal.loop-i-preserved
loop-i-preserved c =
    let one : List ℕ = c.args.one.now in
    let other : List ℕ = c.args.other.now in
    let at : ℕ = c.loop-i.i * 8 in
    let next : at + 8 ≡ (c.loop-i.i + 1) * 8 = omega arith in
    let long = c.requires.long in
    let all = c.requires.all in
    let few : at + 8 ≤ c.args.n = omega (arith, c.loop-i-test.true, long) in
    subst (λ k. take k one ≡ take k other) next
    (same_word one other at c.word_at-left.result c.word_at-right.result (λ i. omega (arith, c.type_inv.one i)) (λ i. omega (arith, c.type_inv.other i)) (omega (arith, few, all)) (omega (arith, few, all))
    c.word_at-left.ensures c.word_at-right.ensures c.if-left-right.false c.loop-i.invariant)

pub returns-then-left-right-2 : goal.returns-then-left-right-2
returns-then-left-right-2 c =
    let one : List ℕ = c.args.one.now in
    let other : List ℕ = c.args.other.now in
    let m : ℕ = c.word_at-left-2.result in
    let n : ℕ = c.word_at-right-2.result in
    let long = c.requires.long in
    let low : c.args.n - 8 ≤ c.loop-i.i * 8 = omega (arith, c.loop-i-test.false, long) in
    c.cmp-then-left-right-2.ensures
    ∙ sym (last_word one other c.args.n (c.loop-i.i * 8) m n (λ i. omega (arith, c.type_inv.one i)) (λ i. omega (arith, c.type_inv.other i)) long c.requires.all low c.word_at-left-2.ensures c.word_at-right-2.ensures c.loop-i.invariant
    ∙ decided m n (nat_cmp (length one) (length other)) c.if-left-right-2.true)

pub returns : goal.returns
returns c =
    let one : List ℕ = c.args.one.now in
    let other : List ℕ = c.args.other.now in
    let m : ℕ = c.word_at-left-2.result in
    let n : ℕ = c.word_at-right-2.result in
    let long = c.requires.long in
    let low : c.args.n - 8 ≤ c.loop-i.i * 8 = omega (arith, c.loop-i-test.false, long) in
    c.cmp-2.ensures
    ∙ sym (last_word one other c.args.n (c.loop-i.i * 8) m n (λ i. omega (arith, c.type_inv.one i)) (λ i. omega (arith, c.type_inv.other i)) long c.requires.all low c.word_at-left-2.ensures c.word_at-right-2.ensures c.loop-i.invariant
    ∙ tied m n (nat_cmp (length one) (length other)) c.if-left-right-2.false)

use Rattle.std.proofs.Common.{◌≡◌, ◌∙◌, ℕ, ◌-◌, ◌≤◌, List, length, take, drop, sym, arith, refl}
use Rattle.std.specs.Ordering.{nat_cmp}
use Rattle.std.specs.Cmp.Lexicographic.{slice_cmp}
use Rattle.gvn_key.proofs.Spelled.{same_half, by_half, decided, tied, last_half}
use Rattle.gvn_key.proofs.words.compare_short.Goals as goal

pub returns-then-left-right : goal.returns-then-left-right
returns-then-left-right c =
    let one : List ℕ = c.args.one.now in
    let other : List ℕ = c.args.other.now in
    let m : ℕ = c.half_at-left.result in
    let n : ℕ = c.half_at-right.result in
    let long = c.requires.long in
    let all = c.requires.all in
    c.cmp.ensures
    ∙ sym (by_half one other 0 m n (λ i. omega (arith, c.type_inv.one i)) (λ i. omega (arith, c.type_inv.other i)) (omega (arith, long, all)) (omega (arith, long, all)) c.half_at-left.ensures c.half_at-right.ensures refl
    ∙ decided m n (slice_cmp nat_cmp (drop 4 one) (drop 4 other)) c.if-left-right.true)

pub returns-then-left-right-2 : goal.returns-then-left-right-2
returns-then-left-right-2 c =
    let one : List ℕ = c.args.one.now in
    let other : List ℕ = c.args.other.now in
    let m : ℕ = c.half_at-left-2.result in
    let n : ℕ = c.half_at-right-2.result in
    let long = c.requires.long in
    let all = c.requires.all in
    let low : c.args.n - 4 ≤ 4 = omega (arith, c.requires.short) in
    let front : take 4 one ≡ take 4 other =
    same_half one other 0 c.half_at-left.result c.half_at-right.result (λ i. omega (arith, c.type_inv.one i)) (λ i. omega (arith, c.type_inv.other i)) (omega (arith, long, all)) (omega (arith, long, all))
    c.half_at-left.ensures c.half_at-right.ensures c.if-left-right.false refl in
    c.cmp-then-left-right-2.ensures
    ∙ sym (last_half one other c.args.n 4 m n (λ i. omega (arith, c.type_inv.one i)) (λ i. omega (arith, c.type_inv.other i)) long all low c.half_at-left-2.ensures c.half_at-right-2.ensures front
    ∙ decided m n (nat_cmp (length one) (length other)) c.if-left-right-2.true)

pub returns : goal.returns
returns c =
    let one : List ℕ = c.args.one.now in
    let other : List ℕ = c.args.other.now in
    let m : ℕ = c.half_at-left-2.result in
    let n : ℕ = c.half_at-right-2.result in
    let long = c.requires.long in
    let all = c.requires.all in
    let low : c.args.n - 4 ≤ 4 = omega (arith, c.requires.short) in
    let front : take 4 one ≡ take 4 other =
    same_half one other 0 c.half_at-left.result c.half_at-right.result (λ i. omega (arith, c.type_inv.one i)) (λ i. omega (arith, c.type_inv.other i)) (omega (arith, long, all)) (omega (arith, long, all))
    c.half_at-left.ensures c.half_at-right.ensures c.if-left-right.false refl in
    c.cmp-2.ensures
    ∙ sym (last_half one other c.args.n 4 m n (λ i. omega (arith, c.type_inv.one i)) (λ i. omega (arith, c.type_inv.other i)) long all low c.half_at-left-2.ensures c.half_at-right-2.ensures front
    ∙ tied m n (nat_cmp (length one) (length other)) c.if-left-right-2.false)

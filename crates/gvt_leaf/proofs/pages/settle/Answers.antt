use Rattle.std.proofs.Common.{◌≡◌, ◌<◌, ◌≤◌, ◌∙◌, ap, ◌++◌, ◌∷◌, [], List, ℕ, length, arith}
use Rattle.std.proofs.lemmas.List.{length-set}
use Rattle.block_pool.specs.Code.{Pool}
use Rattle.block_pool.specs.Pool.{leaf_at}
use Rattle.gvt_leaf.specs.Links.{inside, times}
use Rattle.gvt_leaf.proofs.Links.{times-popped, times_itself}
use Rattle.gvt_leaf.proofs.Chaining.{leaf-changed_same}
use Rattle.gvt_leaf.proofs.pages.settle.Goals as goal

-- a number that was popped is below the count
below : (count n : ℕ) (xs ys : List ℕ) → ((b : ℕ) → 1 ≤ times b xs → b < count) → xs ≡ ys ++ n ∷ [] → n < count
below count n xs ys all popped = all n (omega (arith, times-popped n n xs ys popped, times_itself n))

pub change-requires : goal.change-requires
change-requires c = below (length c.args.pool.now.leaves) c.in-Some.number c.args.free.now.items c.pop.new.self.items c.requires.inside c.in-Some.ensures.items

pub returns-else-is_err-clause-there : goal.returns-else-is_err-clause-there
returns-else-is_err-clause-there c =
    ap (λ (p : Pool). leaf_at p c.in-Some.number) c.change.ensures.changed
    ∙ leaf-changed_same c.args.pool.now c.in-Some.number c.args.block (below (length c.args.pool.now.leaves) c.in-Some.number c.args.free.now.items c.pop.new.self.items c.requires.inside c.in-Some.ensures.items)

pub returns-else-is_err-clause-inside : goal.returns-else-is_err-clause-inside
returns-else-is_err-clause-inside c =
    let count : length c.change.new.self.leaves ≡ length c.args.pool.now.leaves = ap (λ (p : Pool). length p.leaves) c.change.ensures.changed ∙ length-set c.args.pool.now.leaves c.in-Some.number c.args.block in
    omega (arith, count, below (length c.args.pool.now.leaves) c.in-Some.number c.args.free.now.items c.pop.new.self.items c.requires.inside c.in-Some.ensures.items)

pub returns-else-is_err-clause-numbers : goal.returns-else-is_err-clause-numbers
returns-else-is_err-clause-numbers c = λ b.
    let count : inside b (length c.change.new.self.leaves) ≡ inside b (length c.args.pool.now.leaves) =
    ap (inside b) (ap (λ (p : Pool). length p.leaves) c.change.ensures.changed ∙ length-set c.args.pool.now.leaves c.in-Some.number c.args.block) in
    omega (arith, count, times-popped b c.in-Some.number c.args.free.now.items c.pop.new.self.items c.in-Some.ensures.items)

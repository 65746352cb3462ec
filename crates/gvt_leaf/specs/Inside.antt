-- What a chain's fields show.
use Rattle.std.specs.Prelude.{◌≡◌, ◌≤◌, ◌+◌, ℕ, [], length, map, vec_len, vec_capacity}
use Rattle.std.specs.List.{AllByRecursion}
use Rattle.journal_defs.specs.Leaves.{Leaf, IsLeaf}
use Rattle.block_pool.specs.Pool.{leaf_at}
use Rattle.gvt_leaf.specs.Links.{first_or, Lead, times, inside}
use Rattle.gvt_leaf.specs.Chained.{Chained}
use Rattle.gvt_leaf.specs.declared.chain.Chain.TheInside.{Inside}

abbrev pub chained : Inside → Chained
chained c = record {
  leaves = map (λ b. (leaf_at c.pool b).cells) c.order.items;
  pool = record { leaves = c.pool.leaves; dirty = c.pool.dirty; room = length c.spare.items };
}

pub record IsChained (c : Inside) : Type 0 where
  pub linked : Lead (leaf_at c.pool) c.order.items 0
  pub first : first_or 1 c.order.items ≡ 0
  -- each block is a leaf of the chain or a free one, and once
  pub apart : (b : ℕ) → times b c.order.items + times b c.free.items ≡ inside b (length c.pool.leaves)
  pub total : vec_len c.order + vec_len c.free ≡ length c.pool.leaves
  pub forms : AllByRecursion (λ b. IsLeaf (leaf_at c.pool b)) c.order.items
  pub blanks : AllByRecursion (λ (l : Leaf). l.cells ≡ []) c.spare.items
  -- adding a leaf and taking one away take no memory
  pub room : length c.spare.items ≤ c.pool.room
  pub seats : length c.pool.leaves + length c.spare.items ≤ vec_capacity c.order
  pub frees : length c.pool.leaves + length c.spare.items ≤ vec_capacity c.free

-- Blocks that aren't dirty are as they were.
use Rattle.std.specs.Prelude.{◌≡◌, ◌≤◌, ◌<◌, ℕ, false, length}
use Rattle.block_pool.specs.Code.{Pool}
use Rattle.block_pool.specs.Pool.{leaf_at, is_dirty}

-- a block that isn't dirty now was there before, wasn't dirty, and has what it had
pub record IsCleanStill (old new : Pool) (b : ℕ) : Type 0 where
  pub there : b < length old.leaves
  pub clean : is_dirty old b ≡ false
  pub same : leaf_at new b ≡ leaf_at old b

-- no block goes, and what isn't dirty is as it was
pub record KeepsClean (old new : Pool) : Type 0 where
  pub grows : length old.leaves ≤ length new.leaves
  pub clean : (b : ℕ) → b < length new.leaves → is_dirty new b ≡ false → IsCleanStill old new b

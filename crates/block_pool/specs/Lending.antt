-- A block that is lent to be changed.
use Rattle.std.specs.Prelude.{ℕ}
use Rattle.std.specs.Borrow.{Lends, MutBor, Fml}
use Rattle.journal_defs.specs.Leaves.{Leaf}
use Rattle.block_fmt.specs.contracts.block.Block as block
use Rattle.block_pool.specs.Code.{Pool}
use Rattle.block_pool.specs.Pool.{changed}
use Rattle.block_pool.specs.contracts.pool.BlockPool.{the_row}

-- the pool ends with this block as it was left behind the reference, and marked
abbrev pub LendsBlock : MutBor Pool → ℕ → MutBor Leaf → Fml
LendsBlock p b r = Lends the_row block.the_row p r (λ l. changed p.now b l)

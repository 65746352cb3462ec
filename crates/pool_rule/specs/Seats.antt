-- What contracts see of the pool's table and of its seats.
use Rattle.std.specs.Prelude.{ℕ}
use Rattle.atomic_table.specs.Seated.{TableId}
use Rattle.pool_rule.specs.declared.views.View.{View}

-- the pool's table: which one it is, how many data words it has, and the number of its first entry
pub record Held : Type 0 where
  pub table : TableId
  pub size : ℕ
  pub first : ℕ

-- a seat: of which table it is, and what it knows
pub record Knowing : Type 0 where
  pub table : TableId
  pub view : View

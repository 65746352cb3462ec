-- What a source and a sink in memory hold.
use Rattle.std.specs.Prelude.{ℕ, List}

-- the bytes that are left, the numbers of the calls that fail, how many calls there were, and how many of them failed
pub record Reading : Type 0 where
  pub left : List ℕ
  pub failing : List ℕ
  pub calls : ℕ
  pub faults : ℕ

-- the bytes that were taken, the numbers of the calls that fail, the greatest number of bytes that one call takes,
-- the number that all calls together take, how many calls there were, and how many of them failed
pub record Writing : Type 0 where
  pub taken : List ℕ
  pub failing : List ℕ
  pub most : ℕ
  pub room : ℕ
  pub calls : ℕ
  pub faults : ℕ

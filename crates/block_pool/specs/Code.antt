-- What a pool shows, and its code.
use Rattle.std.specs.Prelude.{ℕ, Bool, List, refl}
use Rattle.std.specs.Coded.{Coded, code_by, coded×, coded_list, coded_ℕ, coded_bool}
use Rattle.journal_defs.specs.Leaves.{Leaf}
use Rattle.block_fmt.specs.Code.{leaf_code}

-- blocks by their numbers
pub record Pool : Type 0 where
  pub leaves : List Leaf
  -- of each block whether it may differ from the file
  pub dirty : List Bool
  -- how many blocks may be added without memory
  pub room : ℕ

abbrev pub pool_code : Coded Pool
pool_code = code_by (List Leaf × (List Bool × ℕ)) (coded× (coded_list leaf_code) (coded× (coded_list coded_bool) coded_ℕ)) (λ p. (p.leaves, (p.dirty, p.room))) (λ p. record { leaves = p.0; dirty = p.1.0; room = p.1.1 }) (λ _. refl)

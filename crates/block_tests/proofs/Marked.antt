-- Pools of which each block is marked.
use Rattle.std.proofs.Common.{◌≡◌, ◌<◌, ℕ, zero, suc, Bool, true, false, List, [], ◌∷◌, length, Option, Some, None, subst, arith}
use Rattle.std.specs.Prelude.{IfSome, slice_index_or}
use Rattle.disk_defs.specs.Disk.{Files}
use Rattle.block_pool.specs.Code.{Pool}
use Rattle.block_pool.specs.Pool.{CleanStand}

no_unmarked : (b : ℕ) → b < 3 → slice_index_or (true ∷ true ∷ true ∷ []) b false ≡ false → ⊥
no_unmarked zero low e = cc e
no_unmarked (suc zero) low e = cc e
no_unmarked (suc (suc zero)) low e = cc e
no_unmarked (suc (suc (suc b))) low e = omega (arith, low)

pub clean : (p : Pool) (file : ℕ) (content : Option Files) → p.dirty ≡ true ∷ true ∷ true ∷ [] → length p.leaves ≡ 3 → IfSome content (λ files. CleanStand p (files file))
clean p file None marks count = tt
clean p file (Some files) marks count = λ b inside unmarked. absurd (no_unmarked b (omega (arith, inside, count)) (subst (λ (ms : List Bool). slice_index_or ms b false ≡ false) marks unmarked))

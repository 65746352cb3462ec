-- The starts of reigns.
use Rattle.std.proofs.Common.{◌≡◌, ℕ, List, [], ◌∷◌, ◌++◌, refl}
use Rattle.global_defs.specs.Entry.{Reign}

-- the start of the last one, or this
abbrev pub last_start : ℕ → List Reign → ℕ
last_start low [] = low
last_start low (r ∷ rs) = last_start r.start rs

pub last_push : (low : ℕ) (rs : List Reign) (r : Reign) → last_start low (rs ++ r ∷ []) ≡ r.start
last_push low [] r = refl
last_push low (q ∷ rs) r = last_push q.start rs r

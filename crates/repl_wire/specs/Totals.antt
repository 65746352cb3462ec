-- How many bytes things have that stand one after another.
use Rattle.std.specs.Prelude.{ℕ, ◌+◌, List, [], ◌∷◌, length}

abbrev pub total : {X : Type 0} → (X → List ℕ) → List X → ℕ
total spelled [] = 0
total spelled (x ∷ xs) = length (spelled x) + total spelled xs

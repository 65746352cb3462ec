-- The least of what is still to come.
use Rattle.std.specs.Prelude.{ℕ, suc, min, nat_le, List, [], ◌∷◌, Option, Some, None, if◌then◌else◌}

-- the least of a value and of those behind, of which this is the least
abbrev pub lesser : ℕ → Option ℕ → ℕ
lesser x None = x
lesser x (Some low) = min x low

abbrev pub first_of : List ℕ → Option ℕ
first_of [] = None
first_of (x ∷ xs) = Some x

-- for each place the least of the values from there on
abbrev pub minima : List ℕ → List ℕ
minima [] = []
minima (x ∷ xs) = lesser x (first_of (minima xs)) ∷ minima xs

-- how many values at the front are up to a limit
abbrev pub up_to : ℕ → List ℕ → ℕ
up_to limit [] = 0
up_to limit (x ∷ xs) = if nat_le x limit then suc (up_to limit xs) else 0

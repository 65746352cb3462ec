-- A number by its sign and the digits of its magnitude.
use Rattle.std.specs.Prelude.{ℕ, ℤ, pos, ◌-ℤ◌, ◌==◌, Bool, List, [], ◌∷◌, ◌++◌, replicate, if◌then◌else◌}
use Rattle.global_defs.specs.Encoded.{positive_sub, negative_sub}

-- digits without the zeros at the front
abbrev pub stripped : List ℕ → List ℕ
stripped [] = []
stripped (d ∷ digits) = if d == 48 then stripped digits else d ∷ digits

-- digits and so many zeros behind them, nothing where there is no digit
abbrev pub with_zeros : ℕ → List ℕ → List ℕ
with_zeros count [] = []
with_zeros count (d ∷ digits) = (d ∷ digits) ++ replicate count 48

-- a number by its sign and its magnitude
abbrev pub signed : Bool → ℕ → ℤ
signed negative n = if negative then pos 0 -ℤ pos n else pos n

-- none for 0
abbrev pub number_code : Bool → List ℕ → List ℕ
number_code negative [] = 2 ∷ []
number_code negative (d ∷ digits) = if negative then negative_sub (d ∷ digits) else positive_sub (d ∷ digits)

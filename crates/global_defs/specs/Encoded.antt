-- Keys as bytes, in this project's layout: compared byte by byte they collate as keys do.
use Rattle.std.specs.Prelude.{ℕ, zero, suc, pos, negsuc, ◌+◌, ◌-◌, ◌==◌, List, [], ◌∷◌, ◌++◌, length, map, if◌then◌else◌}
use Rattle.std.specs.List.{flat_map}
use Rattle.std.specs.Fmt.{decimal}
use Rattle.global_defs.specs.Key.{Key, Sub, Number, Text}

-- a digit before others stays, and a 0 at the end goes
abbrev pub kept : ℕ → List ℕ → List ℕ
kept d [] = if d == 48 then [] else d ∷ []
kept d (e ∷ more) = d ∷ e ∷ more

-- digits without the zeros at the end
abbrev pub significant : List ℕ → List ℕ
significant [] = []
significant (d ∷ digits) = kept d (significant digits)

-- a positive number by its digits, which are those of 10 ^ 18 times it: the exponent, the digits up to the last that isn't 0
abbrev pub positive_sub : List ℕ → List ℕ
positive_sub digits = 3 ∷ (46 + length digits) ∷ significant digits ++ 0 ∷ []

abbrev pub negative_sub : List ℕ → List ℕ
negative_sub digits = 1 ∷ (209 - length digits) ∷ map (λ d. 105 - d) (significant digits) ++ 255 ∷ []

abbrev pub escaped : ℕ → List ℕ
escaped zero = 1 ∷ 1 ∷ []
escaped (suc b) = if b == 0 then 1 ∷ 2 ∷ [] else suc b ∷ []

abbrev pub encoded_sub : Sub → List ℕ
encoded_sub (Number (pos zero)) = 2 ∷ []
encoded_sub (Number (pos (suc n))) = positive_sub (decimal (suc n))
encoded_sub (Number (negsuc n)) = negative_sub (decimal (suc n))
encoded_sub (Text s) = 4 ∷ flat_map escaped s ++ 0 ∷ []

abbrev pub encoded : Key → List ℕ
encoded key = key.name ++ 0 ∷ flat_map encoded_sub key.subs

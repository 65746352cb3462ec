-- Nodes as text (GT.M: ZWRITE format).
use Rattle.std.specs.Prelude.{ℕ, ℤ, zero, suc, pos, negsuc, ◌+◌, ◌/◌, ◌%◌, ◌^◌, ◌==◌, List, [], ◌∷◌, ◌++◌, drop, if◌then◌else◌}
use Rattle.std.specs.List.{flat_map}
use Rattle.std.specs.Fmt.{decimal}
use Rattle.global_defs.specs.Key.{Key, Sub, Number, Text}
use Rattle.global_defs.specs.Encoded.{significant}
use Rattle.global_defs.specs.Zwr.{zwr}

-- the digits before the point, none where they are 0
abbrev pub whole_digits : ℕ → List ℕ
whole_digits n = if n == 0 then [] else decimal n

-- digits behind a point, nothing where there are none
abbrev pub pointed : List ℕ → List ℕ
pointed [] = []
pointed (d ∷ digits) = 46 ∷ d ∷ digits

-- the 18 digits behind the point, up to the last that isn't 0
abbrev pub fraction_digits : ℕ → List ℕ
fraction_digits n = pointed (significant (drop 1 (decimal (10 ^ 18 + n))))

-- a number that is 10 ^ 18 times this one
abbrev pub magnitude_text : ℕ → List ℕ
magnitude_text n = whole_digits (n / 10 ^ 18) ++ fraction_digits (n % 10 ^ 18)

abbrev pub number_text : ℤ → List ℕ
number_text (pos zero) = 48 ∷ []
number_text (pos (suc n)) = magnitude_text (suc n)
number_text (negsuc n) = 45 ∷ magnitude_text (suc n)

abbrev pub sub_text : Sub → List ℕ
sub_text (Number x) = number_text x
sub_text (Text s) = zwr s

-- a subscript's own bytes
abbrev pub sub_bytes : Sub → List ℕ
sub_bytes (Number x) = number_text x
sub_bytes (Text s) = s

-- the subscripts in brackets with commas between them, nothing where there are none
abbrev pub subs_text : List Sub → List ℕ
subs_text [] = []
subs_text (s ∷ ss) = 40 ∷ sub_text s ++ flat_map (λ t. 44 ∷ sub_text t) ss ++ 41 ∷ []

abbrev pub node_text : Key → List ℕ
node_text key = 94 ∷ key.name ++ subs_text key.subs

-- The ZWR form of bytes (GT.M: ZWRITE format; a run of other bytes is one $C list here).
use Rattle.std.specs.Prelude.{ℕ, ◌&&◌, ◌==◌, Bool, List, [], ◌∷◌, ◌++◌, map, nat_le, if◌then◌else◌, codes, not}
use Rattle.std.specs.List.{flat_map, join_with_byte}
use Rattle.std.specs.Fmt.{decimal}

-- from space to tilde
abbrev pub is_plain : ℕ → Bool
is_plain b = nat_le 32 b && nat_le b 126

-- b goes to the front of the first run where that is of its kind, else it begins a run
abbrev pub onto : ℕ → List (List ℕ) → List (List ℕ)
onto b [] = (b ∷ []) ∷ []
onto b ([] ∷ more) = (b ∷ []) ∷ more
onto b ((c ∷ run) ∷ more) = if (if is_plain b then is_plain c else not (is_plain c)) then (b ∷ c ∷ run) ∷ more else (b ∷ []) ∷ (c ∷ run) ∷ more

-- the maximal runs of plain bytes and of other bytes
abbrev pub runs : List ℕ → List (List ℕ)
runs [] = []
runs (b ∷ bs) = onto b (runs bs)

-- a quote is doubled
abbrev pub quoted_byte : ℕ → List ℕ
quoted_byte b = if b == 34 then 34 ∷ 34 ∷ [] else b ∷ []

-- a run of plain bytes in quotes, one of others by its codes
abbrev pub piece : List ℕ → List ℕ
piece [] = []
piece (b ∷ run) = if is_plain b
    then 34 ∷ flat_map quoted_byte (b ∷ run) ++ 34 ∷ []
    else codes "$C(" ++ join_with_byte 44 (map decimal (b ∷ run)) ++ 41 ∷ []

abbrev pub zwr : List ℕ → List ℕ
zwr [] = 34 ∷ 34 ∷ []
zwr (b ∷ bs) = join_with_byte 95 (map piece (runs (b ∷ bs)))

-- Places in lists of values.
use Rattle.std.proofs.Common.{◌≡◌, ℕ, ◌+◌, ◌-◌, ◌<◌, List, [], ◌∷◌, ◌++◌, map, length, get_or, take, set, Some, slice_get, sym, ◌∙◌, ap, arith}
use Rattle.std.proofs.lemmas.Option.{slice_get-map, slice_get-get_or, slice_get_within, get_or_from_slice_get}
use Rattle.std.proofs.lemmas.List.{length-map, take_more, get_or-map, map-set}

-- the value of an item at its place
pub slice_get-value : {A B : Type 0} (f : A → B) (xs : List A) (ys : List B) (i : ℕ) (x : A) → map f xs ≡ ys → i < length ys → x ≡ get_or xs i x → slice_get ys i ≡ Some (f x)
slice_get-value f xs ys i x is below at = grind (arith, slice_get-map f xs i, slice_get-get_or xs i x, length-map xs f, is, below, at)

-- the items so far, and the next one
pub take-slice_get : {A : Type 0} (xs : List A) (i : ℕ) (x : A) → slice_get xs i ≡ Some x → take (i + 1) xs ≡ take i xs ++ x ∷ []
take-slice_get xs i x at = grind (arith, take_more xs i x (slice_get_within xs i x at), get_or_from_slice_get xs i x x at)

-- the value of the last item grows
pub map-set-last : {A B : Type 0} (f : A → List B) (xs : List A) (ys : List (List B)) (n : ℕ) (x y : A) (s : B) → map f xs ≡ ys → n ≡ length xs → 0 < length ys → x ≡ get_or xs (n - 1) x → f y ≡ f x ++ s ∷ [] → map f (set xs (n - 1) y) ≡ set ys (length ys - 1) (get_or ys (length ys - 1) [] ++ s ∷ [])
map-set-last f xs ys n x y s is count some at grown =
    let m : length xs ≡ length ys = sym (length-map xs f) ∙ ap length is in
    let i : n - 1 < length xs = omega (arith, m, count, some) in
    let q : get_or (map f xs) (n - 1) [] ≡ f x = get_or-map f xs (n - 1) x [] i ∙ sym (ap f at) in
    grind (arith, map-set f xs (n - 1) y, q, is, m, count, grown)

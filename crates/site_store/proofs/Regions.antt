-- Regions, one by one.
use Rattle.std.proofs.Common.{◌≡◌, ℕ, ◌+◌, ◌<◌, Bool, List, [], ◌∷◌, ◌++◌, length, map, take, get_or, sym, ◌∙◌, ap}
use Rattle.std.proofs.lemmas.List.{map-append, take_more}
use Rattle.gvn_model.specs.Regions.{named_region}
use Rattle.site_store.specs.declared.layout.RegionSpec.{RegionSpec}
use Rattle.site_store.specs.Opening.{region_value}

-- one value more of both lists
pub one_more : {X Y Z : Type 0} (f : Y → Z) (h : X → Z) (xs : List X) (i : ℕ) (x : X) (made next : List Y) (y : Y) → i < length xs → x ≡ get_or xs i x → map f made ≡ map h (take i xs)
    → next ≡ made ++ y ∷ [] → f y ≡ h x → map f next ≡ map h (take (i + 1) xs)
one_more {Z = Z} f h xs i x made next y inside is so_far push same =
    ap (map f) push
    ∙ map-append f made (y ∷ [])
    ∙ ap (λ (l : List Z). l ++ f y ∷ []) so_far
    ∙ ap (λ (z : Z). map h (take i xs) ++ z ∷ []) same
    ∙ sym (map-append h (take i xs) (x ∷ []))
    ∙ ap (map h) (ap (λ y. take i xs ++ y ∷ []) is ∙ sym (take_more xs i x inside))

pub named_more : (xs : List RegionSpec) (i : ℕ) (x : RegionSpec) (made next : List (List ℕ × Bool)) (named : List ℕ × Bool) → i < length xs → x ≡ get_or xs i x → map named_region made ≡ map region_value (take i xs)
    → next ≡ made ++ named ∷ [] → named_region named ≡ region_value x → map named_region next ≡ map region_value (take (i + 1) xs)
named_more = one_more named_region region_value

pub spec_more : (xs : List (List ℕ × Bool)) (i : ℕ) (x : List ℕ × Bool) (made next : List RegionSpec) (spec : RegionSpec) → i < length xs → x ≡ get_or xs i x → map region_value made ≡ map named_region (take i xs)
    → next ≡ made ++ spec ∷ [] → region_value spec ≡ named_region x → map region_value next ≡ map named_region (take (i + 1) xs)
spec_more = one_more region_value named_region

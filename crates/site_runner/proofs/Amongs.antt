-- Elements of lists that are put together.
use Rattle.std.proofs.Common.{◌≡◌, List, [], ◌∷◌, ◌++◌, map, refl, ap, subst, inl, inr}
use Rattle.std.specs.Prelude.{◌⊎◌}
use Rattle.std.specs.List.{flat_map}
use Rattle.site_defs.specs.Lists.{Among}

-- of one list behind another

pub among_first : {X : Type 0} (xs ys : List X) (o : X) → Among xs o → Among (xs ++ ys) o
among_first [] ys o h = absurd h
among_first (x ∷ xs) ys o (inl h) = inl h
among_first (x ∷ xs) ys o (inr h) = inr (among_first xs ys o h)

pub among_second : {X : Type 0} (xs ys : List X) (o : X) → Among ys o → Among (xs ++ ys) o
among_second [] ys o h = h
among_second (x ∷ xs) ys o h = inr (among_second xs ys o h)

pub among_either : {X : Type 0} (xs ys : List X) (o : X) → Among (xs ++ ys) o → Among xs o ⊎ Among ys o
among_either [] ys o h = inr h
among_either (x ∷ xs) ys o (inl h) = inl (inl h)
among_either (x ∷ xs) ys o (inr h) = elim (among_either xs ys o h) [ inl a ↦ inl (inr a) | inr b ↦ inr b ]

-- of what a function makes of each

pub among_map : {X Y : Type 0} (f : X → Y) (xs : List X) (x : X) → Among xs x → Among (map f xs) (f x)
among_map f [] x h = absurd h
among_map f (y ∷ ys) x (inl e) = inl (ap f e)
among_map f (y ∷ ys) x (inr h) = inr (among_map f ys x h)

pub map_among : {X Y : Type 0} (f : X → Y) (xs : List X) (y : Y) → Among (map f xs) y → (x : X) × Among xs x × (y ≡ f x)
map_among f [] y h = absurd h
map_among f (x ∷ xs) y (inl e) = (x, inl refl, e)
map_among f (x ∷ xs) y (inr h) = let k = map_among f xs y h in (k.0, inr k.1, k.2)

-- of the lists that it makes of each

pub among_flat : {X Y : Type 0} (f : X → List Y) (xs : List X) (x : X) (y : Y) → Among xs x → Among (f x) y → Among (flat_map f xs) y
among_flat f [] x y h k = absurd h
among_flat {X} {Y} f (z ∷ zs) x y (inl e) k = among_first (f z) (flat_map f zs) y (subst (λ (w : X). Among (f w) y) e k)
among_flat f (z ∷ zs) x y (inr h) k = among_second (f z) (flat_map f zs) y (among_flat f zs x y h k)

pub flat_among : {X Y : Type 0} (f : X → List Y) (xs : List X) (y : Y) → Among (flat_map f xs) y → (x : X) × Among xs x × Among (f x) y
flat_among f [] y h = absurd h
flat_among f (x ∷ xs) y h = elim (among_either (f x) (flat_map f xs) y h) [
  | inl here ↦ (x, inl refl, here)
  | inr there ↦ let k = flat_among f xs y there in (k.0, inr k.1, k.2)
]

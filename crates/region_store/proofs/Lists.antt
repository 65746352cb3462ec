-- A list of which one element changes, and keys of which some are asked for.
use Rattle.std.proofs.Common.{◌≡◌, ◌≢◌, ℕ, zero, suc, ◌<◌, Bool, true, false, List, [], ◌∷◌, length, map, filter, slice_get, slice_set, get_or, Option, Some, None, refl, sym, ◌∙◌, ap, arith}
use Rattle.std.specs.Prelude.{filter_map, unwrap_or}
use Rattle.std.specs.List.{find, list_any, cons_option}
use Rattle.std.proofs.lemmas.Option.{slice_get-get_or}

module _ {X : Type 0} where
  pub get-set_same : (xs : List X) (i : ℕ) (x : X) → i < length xs → slice_get (slice_set xs i x) i ≡ Some x
  get-set_same [] i x low = absurd (omega (arith, low))
  get-set_same (y ∷ ys) zero x low = refl
  get-set_same (y ∷ ys) (suc i) x low = get-set_same ys i x (omega (arith, low))

  pub get-set_other : (xs : List X) (i j : ℕ) (x : X) → j ≢ i → slice_get (slice_set xs i x) j ≡ slice_get xs j
  get-set_other [] i j x other = refl
  get-set_other (y ∷ ys) zero zero x other = absurd (other refl)
  get-set_other (y ∷ ys) zero (suc j) x other = refl
  get-set_other (y ∷ ys) (suc i) zero x other = refl
  get-set_other (y ∷ ys) (suc i) (suc j) x other = get-set_other ys i j x (λ e. other (ap suc e))

  -- an element that was read
  pub read_at : (xs : List X) (i : ℕ) (x : X) → i < length xs → x ≡ get_or xs i x → slice_get xs i ≡ Some x
  read_at xs i x low is = slice_get-get_or xs i x low ∙ ap (λ (y : X). Some y) (sym is)

  pub there : (xs : List X) (i : ℕ) → i < length xs → (x : X) × (slice_get xs i ≡ Some x)
  there [] i low = absurd (omega (arith, low))
  there (x ∷ xs) zero low = (x, refl)
  there (x ∷ xs) (suc i) low = there xs i (omega (arith, low))

  -- another element in its place that shows the same
  pub map-set_alike : {Y : Type 0} (f : X → Y) (xs : List X) (i : ℕ) (s t : X) → slice_get xs i ≡ Some s → f t ≡ f s → map f (slice_set xs i t) ≡ map f xs
  map-set_alike f [] i s t here same = refl
  map-set_alike {Y} f (x ∷ xs) zero s t here same = let is : x ≡ s = unwrapped x s here in ap (λ (y : Y). y ∷ map f xs) (same ∙ ap f (sym is))
    where
      unwrapped : (a b : X) → Some a ≡ Some b → a ≡ b
      unwrapped a b e = ap (λ (o : Option X). unwrap_or o a) e
  map-set_alike {Y} f (x ∷ xs) (suc i) s t here same = ap (λ (ys : List Y). f x ∷ ys) (map-set_alike f xs i s t here same)

module _ {X Y : Type 0} (key : X → Y) where
  -- whether there is an element
  abbrev pub some_in : List X → Bool
  some_in [] = false
  some_in (x ∷ xs) = true

  any_step : (f : Y → Bool) (x : X) (xs : List X) (b : Bool) → f (key x) ≡ b → list_any f (map key xs) ≡ some_in (filter (λ y. f (key y)) xs) → list_any f (map key (x ∷ xs)) ≡ some_in (filter (λ y. f (key y)) (x ∷ xs))
  any_step f x xs true is rest = rw is refl
  any_step f x xs false is rest = rw is rest

  pub any_by : (f : Y → Bool) (xs : List X) → list_any f (map key xs) ≡ some_in (filter (λ x. f (key x)) xs)
  any_by f [] = refl
  any_by f (x ∷ xs) = any_step f x xs (f (key x)) refl (any_by f xs)

  find_step : (f : Y → Bool) (x : X) (xs : List X) (b : Bool) → f (key x) ≡ b → find f (map key xs) ≡ slice_get (map key (filter (λ y. f (key y)) xs)) 0 → find f (map key (x ∷ xs)) ≡ slice_get (map key (filter (λ y. f (key y)) (x ∷ xs))) 0
  find_step f x xs true is rest = rw is refl
  find_step f x xs false is rest = rw is rest

  pub find_by : (f : Y → Bool) (xs : List X) → find f (map key xs) ≡ slice_get (map key (filter (λ x. f (key x)) xs)) 0
  find_by f [] = refl
  find_by f (x ∷ xs) = find_step f x xs (f (key x)) refl (find_by f xs)

  kept_step : {Z : Type 0} (f : Y → Option Z) (p : Y → Bool) → ((y : Y) → p y ≡ false → f y ≡ None) → (x : X) (xs : List X) (b : Bool) → p (key x) ≡ b → filter_map f (map key xs) ≡ filter_map f (map key (filter (λ y. p (key y)) xs))
      → filter_map f (map key (x ∷ xs)) ≡ filter_map f (map key (filter (λ y. p (key y)) (x ∷ xs)))
  kept_step f p none x xs true is rest = rw is (ap (cons_option (f (key x))) rest)
  kept_step {Z} f p none x xs false is rest = rw is (ap (λ (o : Option Z). cons_option o (filter_map f (map key xs))) (none (key x) is) ∙ rest)

  pub filter_map_by : {Z : Type 0} (f : Y → Option Z) (p : Y → Bool) → ((y : Y) → p y ≡ false → f y ≡ None) → (xs : List X) → filter_map f (map key xs) ≡ filter_map f (map key (filter (λ x. p (key x)) xs))
  filter_map_by f p none [] = refl
  filter_map_by f p none (x ∷ xs) = kept_step f p none x xs (p (key x)) refl (filter_map_by f p none xs)

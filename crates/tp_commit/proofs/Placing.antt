-- The lists of items, one a region.
use Rattle.std.proofs.Common.{inl, inr, ◌≡◌, ◌<◌, ◌≤◌, ◌+◌, ◌==◌, ◌^◌, ℕ, zero, suc, Bool, true, false, List, [], ◌∷◌, ◌++◌, length, map, filter, get_or, drop, set, take, if◌then◌else◌, refl, sym, ◌∙◌, ap, arith}
use Rattle.std.proofs.lemmas.List.{take_more, map-append, length-take-le, get_or_default, get_or-take, get_or_past}
use Rattle.std.proofs.lemmas.Bool.{cases_lt}
use Rattle.std.proofs.lemmas.Bool.Decides.{nat_tests}
use Rattle.std.specs.Prelude.{nat_lt, nat_eq, not, ◌-◌, ◌*◌, ◌%◌}
use Rattle.std.proofs.lemmas.List.Elements.{filter-append}
use Rattle.global_defs.specs.declared.limits.TheConstants.{MOST_REGIONS}
use Rattle.global_defs.specs.Entry.{Update, Item}
use Rattle.journal_defs.specs.Sequence.{REGIONS}
use Rattle.journal_defs.specs.Split.{numbered, items_for, mask_with}

numbered_more : (n : ℕ) (us : List Update) (u : Update) → numbered n (us ++ u ∷ []) ≡ numbered n us ++ record { position = n + length us; update = u } ∷ []
numbered_more n [] u = ap (λ (k : ℕ). record { position = k; update = u } ∷ []) (omega arith)
numbered_more n (v ∷ us) u =
    ap (λ (is : List Item). record { position = n; update = v } ∷ is) (numbered_more (suc n) us u ∙ ap (λ (k : ℕ). numbered (suc n) us ++ record { position = k; update = u } ∷ []) (omega arith))

chosen : (b : Bool) (xs : List Item) (x : Item) → xs ++ (if b then x ∷ [] else []) ≡ (if b then xs ++ x ∷ [] else xs)
chosen true xs x = refl
chosen false [] x = refl
chosen false (y ∷ xs) x = ap (λ (l : List Item). y ∷ l) (chosen false xs x)

-- one update more is an item of its region
items_more : (region : Update → ℕ) (us : List Update) (u : Update) (i : ℕ) → i ≡ length us → (r : ℕ)
    → items_for region r (us ++ u ∷ []) ≡ (if region u == r then items_for region r us ++ record { position = i; update = u } ∷ [] else items_for region r us)
items_more region us u i is r =
    let f = λ (x : Item). region x.update == r in
    let place : 0 + length us ≡ i = omega (arith, is) in
    ap (filter f) (numbered_more 0 us u ∙ ap (λ (k : ℕ). numbered 0 us ++ record { position = k; update = u } ∷ []) place)
    ∙ filter-append f (numbered 0 us) (record { position = i; update = u } ∷ []) ∙ chosen (region u == r) (items_for region r us) (record { position = i; update = u })

placed : (f g : ℕ → List Item) (k : ℕ) (x : Item) → k < MOST_REGIONS → ((r : ℕ) → g r ≡ (if k == r then f r ++ x ∷ [] else f r)) → map g REGIONS ≡ set (map f REGIONS) k (get_or (map f REGIONS) k [] ++ x ∷ [])
placed f g zero x low h = rw (h 0, h 1, h 2, h 3, h 4, h 5, h 6, h 7) refl
placed f g (suc zero) x low h = rw (h 0, h 1, h 2, h 3, h 4, h 5, h 6, h 7) refl
placed f g (suc (suc zero)) x low h = rw (h 0, h 1, h 2, h 3, h 4, h 5, h 6, h 7) refl
placed f g (suc (suc (suc zero))) x low h = rw (h 0, h 1, h 2, h 3, h 4, h 5, h 6, h 7) refl
placed f g (suc (suc (suc (suc zero)))) x low h = rw (h 0, h 1, h 2, h 3, h 4, h 5, h 6, h 7) refl
placed f g (suc (suc (suc (suc (suc zero))))) x low h = rw (h 0, h 1, h 2, h 3, h 4, h 5, h 6, h 7) refl
placed f g (suc (suc (suc (suc (suc (suc zero)))))) x low h = rw (h 0, h 1, h 2, h 3, h 4, h 5, h 6, h 7) refl
placed f g (suc (suc (suc (suc (suc (suc (suc zero))))))) x low h = rw (h 0, h 1, h 2, h 3, h 4, h 5, h 6, h 7) refl
placed f g (suc (suc (suc (suc (suc (suc (suc (suc k)))))))) x low h = absurd (omega arith)

-- an update more, in the lists of all regions
pub lists_more : (region : Update → ℕ) (us : List Update) (u : Update) (i : ℕ) → i ≡ length us → region u < MOST_REGIONS
    → set (map (λ r. items_for region r us) REGIONS) (region u) (get_or (map (λ r. items_for region r us) REGIONS) (region u) [] ++ record { position = i; update = u } ∷ [])
    ≡ map (λ r. items_for region r (us ++ u ∷ [])) REGIONS
lists_more region us u i is low = sym (placed (λ r. items_for region r us) (λ r. items_for region r (us ++ u ∷ [])) (region u) (record { position = i; update = u }) low (items_more region us u i is))

set_taken : {X : Type 0} (n k : ℕ) (l : List X) (x : X) → k < n → set (take n l) k x ≡ take n (set l k x)
set_taken zero k l x low = absurd (omega (arith, low))
set_taken (suc n) k [] x low = refl
set_taken (suc n) zero (y ∷ l) x low = refl
set_taken (suc n) (suc k) (y ∷ l) x low = ap (λ (m : List _). y ∷ m) (set_taken n k l x (omega (arith, low)))

-- and in those of the first so many regions
pub put_taken : (n k : ℕ) (l : List (List Item)) (x : Item) → k < n → set (take n l) k (get_or (take n l) k [] ++ x ∷ []) ≡ take n (set l k (get_or l k [] ++ x ∷ []))
put_taken n k l x low = ap (λ (items : List Item). set (take n l) k (items ++ x ∷ [])) (get_or-take n l k [] low) ∙ set_taken n k l (get_or l k [] ++ x ∷ []) low

at_region : {X : Type 0} (h : ℕ → X) (none : X) (r : ℕ) → r < MOST_REGIONS → get_or (map h REGIONS) r none ≡ h r
at_region h none zero low = refl
at_region h none (suc zero) low = refl
at_region h none (suc (suc zero)) low = refl
at_region h none (suc (suc (suc zero))) low = refl
at_region h none (suc (suc (suc (suc zero)))) low = refl
at_region h none (suc (suc (suc (suc (suc zero))))) low = refl
at_region h none (suc (suc (suc (suc (suc (suc zero)))))) low = refl
at_region h none (suc (suc (suc (suc (suc (suc (suc zero))))))) low = refl
at_region h none (suc (suc (suc (suc (suc (suc (suc (suc r)))))))) low = absurd (omega arith)

-- what stands for a region among the first so many, behind which there is nothing
pub at_taken : {X : Type 0} (h : ℕ → X) (none : X) (n r : ℕ) → n ≤ MOST_REGIONS → r < MOST_REGIONS → (n ≤ r → h r ≡ none) → get_or (take n (map h REGIONS)) r none ≡ h r
at_taken h none n r few low past = elim (cases_lt r n) [
  | inl below ↦ get_or-take n (map h REGIONS) r none below ∙ at_region h none r low
  | inr above ↦ (let long = length-take-le n (map h REGIONS) few in get_or_past (take n (map h REGIONS)) r none (omega (arith, long, above))) ∙ sym (past above)
]

-- a region that there isn't has no item
pub none_past : (region : Update → ℕ) (bound i r : ℕ) (us : List Update) → ((u : Update) → region u < bound) → bound ≤ r → filter (λ x. region x.update == r) (numbered i us) ≡ []
none_past region bound i r [] low past = refl
none_past region bound i r (u ∷ us) low past =
    let here = low u in
    let other : (region u == r) ≡ false = grind (arith, nat_tests, here, past) in
    rw other (none_past region bound (suc i) r us low past)

-- the items of a region, in the lists of all that there are
pub items_taken : (region : Update → ℕ) (bound : ℕ) (us : List Update) → bound ≤ MOST_REGIONS → ((u : Update) → region u < bound) → (r : ℕ) → r < MOST_REGIONS → get_or (take bound (map (λ r. items_for region r us) REGIONS)) r [] ≡ items_for region r us
items_taken region bound us few low r inside = at_taken (λ r. items_for region r us) [] bound r few inside (λ past. none_past region bound 0 r us low past)

-- one more, of the values of a list
pub one_longer : {X Y : Type 0} (f : X → Y) (xs : List X) (i : ℕ) (x : X) → i < length xs → x ≡ get_or xs i x → map f (take (i + 1) xs) ≡ map f (take i xs) ++ f x ∷ []
one_longer f xs i x h e = ap (map f) (take_more xs i x h) ∙ map-append f (take i xs) (get_or xs i x ∷ []) ∙ ap (λ y. map f (take i xs) ++ f y ∷ []) (sym e)

pub length-map-of : {X Y : Type 0} (f : X → Y) (xs : List X) → length (map f xs) ≡ length xs
length-map-of f [] = refl
length-map-of f (x ∷ xs) = ap suc (length-map-of f xs)

pub length_taken : {X Y : Type 0} (f : X → Y) (xs : List X) (i : ℕ) → i < length xs → i ≡ length (map f (take i xs))
length_taken f xs i low = sym (length-map-of f (take i xs) ∙ length-take-le i xs (omega (arith, low)))

-- whether a list has an item
pub has_item : (lists : List (List Item)) (i : ℕ) (x : List Item) (b : Bool) → i < length lists → x ≡ get_or lists i x → b ≡ nat_eq (length x) 0 → nat_lt 0 (length (get_or lists i [])) ≡ not b
has_item lists i x b low here is = ap (λ (l : List Item). nat_lt 0 (length l)) (get_or_default lists i [] x low ∙ sym here) ∙ some x ∙ sym (ap not is)
  where
    some : (l : List Item) → nat_lt 0 (length l) ≡ not (nat_eq (length l) 0)
    some [] = refl
    some (y ∷ l) = grind (arith, nat_tests)

-- the mask of the regions from one on
mask_more : (has : ℕ → Bool) (r : ℕ) → r < MOST_REGIONS → mask_with has (drop r REGIONS) ≡ (if has r then 2 ^ r else 0) + mask_with has (drop (r + 1) REGIONS)
mask_more has zero low = refl
mask_more has (suc zero) low = refl
mask_more has (suc (suc zero)) low = refl
mask_more has (suc (suc (suc zero))) low = refl
mask_more has (suc (suc (suc (suc zero)))) low = refl
mask_more has (suc (suc (suc (suc (suc zero))))) low = refl
mask_more has (suc (suc (suc (suc (suc (suc zero)))))) low = refl
mask_more has (suc (suc (suc (suc (suc (suc (suc zero))))))) low = refl
mask_more has (suc (suc (suc (suc (suc (suc (suc (suc r)))))))) low = absurd (omega arith)

at_most : (b : Bool) (n : ℕ) → (if b then n else 0) ≤ n
at_most true n = omega arith
at_most false n = omega arith

pub mask_small : (has : ℕ → Bool) → mask_with has REGIONS ≤ 255
mask_small has =
    let a = at_most (has 0) 1 in
    let b = at_most (has 1) 2 in
    let c = at_most (has 2) 4 in
    let d = at_most (has 3) 8 in
    let e = at_most (has 4) 16 in
    let f = at_most (has 5) 32 in
    let g = at_most (has 6) 64 in
    let h = at_most (has 7) 128 in
    omega (arith, a, b, c, d, e, f, g, h)

pub shifted : (i : ℕ) → i < MOST_REGIONS → 1 * 2 ^ i % 256 ≡ 2 ^ i
shifted zero low = refl
shifted (suc zero) low = refl
shifted (suc (suc zero)) low = refl
shifted (suc (suc (suc zero))) low = refl
shifted (suc (suc (suc (suc zero)))) low = refl
shifted (suc (suc (suc (suc (suc zero))))) low = refl
shifted (suc (suc (suc (suc (suc (suc zero)))))) low = refl
shifted (suc (suc (suc (suc (suc (suc (suc zero))))))) low = refl
shifted (suc (suc (suc (suc (suc (suc (suc (suc i)))))))) low = absurd (omega arith)

-- a region more in the mask so far
pub mask_on : (has : ℕ → Bool) (i mask total : ℕ) (b : Bool) → i < MOST_REGIONS → has i ≡ b → mask + mask_with has (drop i REGIONS) ≡ total → mask + (if b then 2 ^ i else 0) + mask_with has (drop (i + 1) REGIONS) ≡ total
mask_on has i mask total b low is so_far =
    let more : mask_with has (drop i REGIONS) ≡ (if b then 2 ^ i else 0) + mask_with has (drop (i + 1) REGIONS) = mask_more has i low ∙ ap (λ (c : Bool). (if c then 2 ^ i else 0) + mask_with has (drop (i + 1) REGIONS)) is in
    omega (arith, more, so_far)

none_from : (has : ℕ → Bool) (left i : ℕ) → i + left ≡ 8 → ((r : ℕ) → i ≤ r → has r ≡ false) → mask_with has (drop i REGIONS) ≡ 0
none_from has zero i at none = let end : i ≡ 8 = omega (arith, at) in ap (λ (k : ℕ). mask_with has (drop k REGIONS)) end
none_from has (suc left) i at none =
    let here : mask_with has (drop i REGIONS) ≡ (if false then 2 ^ i else 0) + mask_with has (drop (i + 1) REGIONS) = mask_more has i (omega (arith, at)) ∙ ap (λ (b : Bool). (if b then 2 ^ i else 0) + mask_with has (drop (i + 1) REGIONS)) (none i (omega arith)) in
    let rest : mask_with has (drop (i + 1) REGIONS) ≡ 0 = none_from has left (i + 1) (omega (arith, at)) (λ r past. none r (omega (arith, past))) in
    omega (arith, here, rest)

-- behind the lists there is nothing in the mask
pub mask_end : (lists : List (List Item)) (i : ℕ) → length lists ≤ i → i ≤ MOST_REGIONS → mask_with (λ r. nat_lt 0 (length (get_or lists r []))) (drop i REGIONS) ≡ 0
mask_end lists i past few =
    none_from (λ r. nat_lt 0 (length (get_or lists r []))) (8 - i) i (omega (arith, few)) (λ r beyond. ap (λ (l : List Item). nat_lt 0 (length l)) (get_or_past lists r [] (omega (arith, past, beyond))))

-- the same regions are in both masks
pub mask_same : (f g : ℕ → Bool) → ((r : ℕ) → r < MOST_REGIONS → f r ≡ g r) → mask_with f REGIONS ≡ mask_with g REGIONS
mask_same f g h = rw (h 0 (omega arith), h 1 (omega arith), h 2 (omega arith), h 3 (omega arith), h 4 (omega arith), h 5 (omega arith), h 6 (omega arith), h 7 (omega arith)) refl

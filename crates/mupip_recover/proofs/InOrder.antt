-- Items that stand in the order of their positions.
use Rattle.std.proofs.Common.{◌≡◌, ℕ, zero, suc, ◌+◌, ◌<◌, ◌==◌, Bool, true, false, List, [], ◌∷◌, ◌++◌, length, map, take, drop, Option, Some, None, refl, sym, ◌∙◌, ap, arith, if◌then◌else◌}
use Rattle.std.proofs.lemmas.Bool.Decides.{nat_tests}
use Rattle.std.proofs.lemmas.List.{map-append}
use Rattle.std.specs.List.{flat_map}
use Rattle.std.specs.Option.{option_map, option_or, option_and_then}
use Rattle.global_defs.specs.declared.limits.TheConstants.{MOST_REGIONS}
use Rattle.global_defs.specs.Entry.{Update, Item}
use Rattle.journal_defs.specs.Sequence.{REGIONS, update_at, updates_from, updates_of}
use Rattle.mupip_recover.specs.Slots.{next_after, is_at}
use Rattle.mupip_recover.proofs.SlotLaws.{update_at-one, elsewhere, here}
use Rattle.mupip_recover.proofs.RegionLists.{from_region, flat_more}

-- an item below these positions gives none of them
below : (x : Item) (items : List Item) (i k : ℕ) → x.position < i → updates_from (x ∷ items) i k ≡ updates_from items i k
below x items i zero low = refl
below x items i (suc k) low =
    let at : update_at (x ∷ items) i ≡ update_at items i = update_at-one x items i ∙ ap (λ (o : Option Update). option_or o (update_at items i)) (elsewhere i x (omega arith)) in
    rw at (ap (λ (o : Option (List Update)). option_and_then (λ u. option_map (λ us. u ∷ us) o) (update_at items i)) (below x items (suc i) k (omega arith)))

first_at : (x : Item) (items : List Item) (i n : ℕ) (b : Bool) → (x.position == i) ≡ b → (if b then next_after (suc i) items else None) ≡ Some n → x.position ≡ i
first_at x items i n true is h = grind (arith, nat_tests)
first_at x items i n false is h = cc

others_after : (x : Item) (items : List Item) (i n : ℕ) (b : Bool) → (if b then next_after (suc i) items else None) ≡ Some n → next_after (suc i) items ≡ Some n
others_after x items i n true h = h
others_after x items i n false h = cc

end_of : (items : List Item) (i n : ℕ) → next_after i items ≡ Some n → n ≡ i + length items
end_of [] i n h = let same : i ≡ n = cc in omega arith
end_of (x ∷ items) i n h = omega (arith, end_of items (suc i) n (others_after x items i n (x.position == i) h))

all_from : (items : List Item) (i n : ℕ) → next_after i items ≡ Some n → updates_from items i (length items) ≡ Some (map (λ x. x.update) items)
all_from [] i n h = refl
all_from (x ∷ items) i n h =
    let at : x.position ≡ i = first_at x items i n (x.position == i) refl h in
    let found : update_at (x ∷ items) i ≡ Some x.update = update_at-one x items i ∙ ap (λ (o : Option Update). option_or o (update_at items i)) (here i x at) in
    let rest : updates_from (x ∷ items) (suc i) (length items) ≡ Some (map (λ y. y.update) items) =
    below x items (suc i) (length items) (omega arith) ∙ all_from items (suc i) n (others_after x items i n (x.position == i) h) in
    rw found (ap (option_map (λ us. x.update ∷ us)) rest)

ended : (count : ℕ) (o : Option ℕ) → is_at count o ≡ true → o ≡ Some count
ended count None h = cc
ended count (Some j) h = let same : j ≡ count = grind (arith, nat_tests) in ap Some same

-- the updates of items that have all positions up to a count in order
pub by_order : (items : List Item) (count : ℕ) → is_at count (next_after 0 items) ≡ true → updates_of items count ≡ Some (map (λ x. x.update) items)
by_order items count h =
    let after : next_after 0 items ≡ Some count = ended count (next_after 0 items) h in
    let many : count ≡ length items = omega (arith, end_of items 0 count after) in
    let yes : (length items == count) ≡ true = grind (arith, nat_tests) in
    ap (λ (b : Bool). if b then updates_from items 0 count else None) yes ∙ ap (updates_from items 0) many ∙ all_from items 0 count after

-- the items of one region more
after_append : (i : ℕ) (xs ys : List Item) → next_after i (xs ++ ys) ≡ option_and_then (λ j. next_after j ys) (next_after i xs)
after_append i [] ys = refl
after_append i (x ∷ xs) ys = elim (x.position == i) as (λ b. (if b then next_after (suc i) (xs ++ ys) else None) ≡ option_and_then (λ j. next_after j ys) (if b then next_after (suc i) xs else None)) [
  | true ↦ after_append (suc i) xs ys
  | false ↦ refl
]

at_region : (f : ℕ → List Item) (i next : ℕ) → i < MOST_REGIONS → next_after next (flat_map f (drop i REGIONS)) ≡ option_and_then (λ j. next_after j (flat_map f (drop (i + 1) REGIONS))) (next_after next (f i))
at_region f i next low = ap (λ (l : List ℕ). next_after next (flat_map f l)) (from_region i low) ∙ after_append next (f i) (flat_map f (drop (i + 1) REGIONS))

pub region_more : (f : ℕ → List Item) (i next n : ℕ) → i < MOST_REGIONS → next_after next (f i) ≡ Some n
    → next_after next (flat_map f (drop i REGIONS)) ≡ next_after n (flat_map f (drop (i + 1) REGIONS))
region_more f i next n low h = at_region f i next low ∙ ap (option_and_then (λ j. next_after j (flat_map f (drop (i + 1) REGIONS)))) h

pub region_fails : (f : ℕ → List Item) (i next : ℕ) → i < MOST_REGIONS → next_after next (f i) ≡ None → next_after next (flat_map f (drop i REGIONS)) ≡ None
region_fails f i next low h = at_region f i next low ∙ ap (option_and_then (λ j. next_after j (flat_map f (drop (i + 1) REGIONS)))) h

-- the updates of one region more
pub updates_more : (f : ℕ → List Item) (i : ℕ) → i < MOST_REGIONS
    → map (λ y. y.update) (flat_map f (take i REGIONS)) ++ map (λ y. y.update) (f i) ≡ map (λ y. y.update) (flat_map f (take (i + 1) REGIONS))
updates_more f i low = sym (ap (map (λ (y : Item). y.update)) (flat_more f i low) ∙ map-append (λ (y : Item). y.update) (flat_map f (take i REGIONS)) (f i))

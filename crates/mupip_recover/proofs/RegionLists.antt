-- The list of regions, up to one and from one on.
use Rattle.std.proofs.Common.{◌≡◌, ℕ, zero, suc, ◌+◌, ◌-◌, ◌<◌, ◌≤◌, ◌==◌, ◌&&◌, Bool, true, false, List, [], ◌∷◌, ◌++◌, length, take, drop, get_or, refl, ◌∙◌, ap, arith, length-append}
use Rattle.std.proofs.lemmas.Bool.Decides.{nat_tests}
use Rattle.std.proofs.lemmas.Grind.{flat_map-append}
use Rattle.std.proofs.lemmas.List.{append-nil}
use Rattle.std.proofs.lemmas.List.Folds.{length-flat_map-take}
use Rattle.std.specs.List.{list_all, flat_map}
use Rattle.global_defs.specs.declared.limits.TheConstants.{MOST_REGIONS}
use Rattle.journal_defs.specs.Sequence.{REGIONS}

pub from_region : (i : ℕ) → i < MOST_REGIONS → drop i REGIONS ≡ i ∷ drop (i + 1) REGIONS
from_region zero h = refl
from_region (suc zero) h = refl
from_region (suc (suc zero)) h = refl
from_region (suc (suc (suc zero))) h = refl
from_region (suc (suc (suc (suc zero)))) h = refl
from_region (suc (suc (suc (suc (suc zero))))) h = refl
from_region (suc (suc (suc (suc (suc (suc zero)))))) h = refl
from_region (suc (suc (suc (suc (suc (suc (suc zero))))))) h = refl
from_region (suc (suc (suc (suc (suc (suc (suc (suc i)))))))) h = absurd (omega arith)

pub up_to_region : (i : ℕ) → i < MOST_REGIONS → take (i + 1) REGIONS ≡ take i REGIONS ++ i ∷ []
up_to_region zero h = refl
up_to_region (suc zero) h = refl
up_to_region (suc (suc zero)) h = refl
up_to_region (suc (suc (suc zero))) h = refl
up_to_region (suc (suc (suc (suc zero)))) h = refl
up_to_region (suc (suc (suc (suc (suc zero))))) h = refl
up_to_region (suc (suc (suc (suc (suc (suc zero)))))) h = refl
up_to_region (suc (suc (suc (suc (suc (suc (suc zero))))))) h = refl
up_to_region (suc (suc (suc (suc (suc (suc (suc (suc i)))))))) h = absurd (omega arith)

get_region : (i : ℕ) → i < MOST_REGIONS → get_or REGIONS i 0 ≡ i
get_region zero h = refl
get_region (suc zero) h = refl
get_region (suc (suc zero)) h = refl
get_region (suc (suc (suc zero))) h = refl
get_region (suc (suc (suc (suc zero)))) h = refl
get_region (suc (suc (suc (suc (suc zero))))) h = refl
get_region (suc (suc (suc (suc (suc (suc zero)))))) h = refl
get_region (suc (suc (suc (suc (suc (suc (suc zero))))))) h = refl
get_region (suc (suc (suc (suc (suc (suc (suc (suc i)))))))) h = absurd (omega arith)

-- a test of all regions
pub all_more : (f : ℕ → Bool) (i : ℕ) → i < MOST_REGIONS → f i ≡ true → list_all f (drop i REGIONS) ≡ list_all f (drop (i + 1) REGIONS)
all_more f i low h = ap (list_all f) (from_region i low) ∙ ap (λ (b : Bool). b && list_all f (drop (i + 1) REGIONS)) h

pub all_fails : (f : ℕ → Bool) (i : ℕ) → i < MOST_REGIONS → f i ≡ false → list_all f (drop i REGIONS) ≡ false
all_fails f i low h = ap (list_all f) (from_region i low) ∙ ap (λ (b : Bool). b && list_all f (drop (i + 1) REGIONS)) h

-- lists of all regions, joined
pub flat_more : {X : Type 0} (f : ℕ → List X) (i : ℕ) → i < MOST_REGIONS → flat_map f (take (i + 1) REGIONS) ≡ flat_map f (take i REGIONS) ++ f i
flat_more f i low = ap (flat_map f) (up_to_region i low) ∙ flat_map-append f (take i REGIONS) (i ∷ []) ∙ ap (λ l. flat_map f (take i REGIONS) ++ l) (append-nil (f i))

pub count_more : {X : Type 0} (f : ℕ → List X) (i left many count : ℕ) → i < MOST_REGIONS → length (f i) ≡ many → many ≤ left → length (flat_map f (take i REGIONS)) + left ≡ count
    → length (flat_map f (take (i + 1) REGIONS)) + (left - many) ≡ count
count_more f i left many count low long le h = omega (arith, ap length (flat_more f i low) ∙ length-append (flat_map f (take i REGIONS)) (f i))

pub count_over : {X : Type 0} (f : ℕ → List X) (i left many count : ℕ) → i < MOST_REGIONS → length (f i) ≡ many → left < many → length (flat_map f (take i REGIONS)) + left ≡ count
    → false ≡ (length (flat_map f REGIONS) == count)
count_over f i left many count low long over h =
    let more : length (flat_map f (take i REGIONS)) + length (f (get_or REGIONS i 0)) ≤ length (flat_map f REGIONS) = length-flat_map-take f REGIONS i 0 low in
    let at : get_or REGIONS i 0 ≡ i = get_region i low in
    let past : count < length (flat_map f REGIONS) = omega (arith, ap (λ (r : ℕ). length (f r)) at) in
    grind (arith, nat_tests)

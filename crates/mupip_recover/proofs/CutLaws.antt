-- What survives the cuts of an instance file.
use Rattle.std.proofs.Common.{◌≡◌, inl, inr, ℕ, ◌+◌, ◌<◌, ◌==◌, nat_le, ◌&&◌, ◌||◌, Bool, true, false, List, [], ◌∷◌, map, length, get_or, slice_get, sum_by, Option, Some, None, refl, sym, ◌∙◌, ap, arith, if◌then◌else◌}
use Rattle.std.proofs.lemmas.Bool.{cases_lt}
use Rattle.std.proofs.lemmas.Bool.Decides.{nat_tests}
use Rattle.std.proofs.lemmas.List.{get_or-map, length-map}
use Rattle.std.proofs.lemmas.List.Sorted.{sum_by-IsPermutation}
use Rattle.std.proofs.lemmas.List.Sums.{sum_by-cons}
use Rattle.std.specs.List.{filter_map, list_all, cons_option}
use Rattle.std.specs.List.Sorted.{IsNonDecreasing, IsNonDecreasingBy, IsPermutation}
use Rattle.journal_defs.specs.Instance.{InstanceRecord, Create, Reigned, Cut, Map, Mode}
use Rattle.journal_defs.specs.Surviving.{survives}
use Rattle.mupip_recover.specs.Minima.{lesser, first_of, minima, up_to}
use Rattle.mupip_recover.specs.declared.cuts.Cut as code
use Rattle.mupip_recover.specs.declared.cuts.Cuts.{Cuts}
use Rattle.mupip_recover.specs.Cuts.{cut_in, AreCuts}
use Rattle.mupip_recover.proofs.Least.{NoneLess, none_less}

-- the cut leaves what has this generation and this number
abbrev leaves : ℕ → ℕ → code.Cut → Bool
leaves g n c = nat_le c.generation g || nat_le n c.length

-- a number is up to a length, where there is one
abbrev pub is_within : ℕ → Option ℕ → Bool
is_within n None = true
is_within n (Some length) = nat_le n length

within_lesser : (n m : ℕ) (o : Option ℕ) → (nat_le n m && is_within n o) ≡ nat_le n (lesser m o)
within_lesser n m None = elim (nat_le n m) as (λ b. (b && true) ≡ b) [ true ↦ refl | false ↦ refl ]
within_lesser n m (Some low) = grind (arith, nat_tests)

-- where all generations are later
none_passed : (low g n : ℕ) (cuts : List code.Cut) → NoneLess low (map (λ x. x.generation) cuts) → g < low
    → list_all (leaves g n) cuts ≡ is_within n (first_of (minima (map (λ x. x.length) cuts)))
none_passed low g n [] h before = refl
none_passed low g n (c ∷ cs) h before =
    let later : nat_le c.generation g ≡ false = grind (arith, nat_tests) in
    rw later (ap (λ (b : Bool). nat_le n c.length && b) (none_passed c.generation g n cs h.1 (omega (arith, h.0))) ∙ within_lesser n c.length (first_of (minima (map (λ x. x.length) cs))))

spared : (low g n : ℕ) (cuts : List code.Cut) → NoneLess low (map (λ x. x.generation) cuts)
    → list_all (leaves g n) cuts ≡ is_within n (slice_get (minima (map (λ x. x.length) cuts)) (up_to g (map (λ x. x.generation) cuts)))
spared low g n [] h = refl
spared low g n (c ∷ cs) h = elim (cases_lt g c.generation) [
  | inl before ↦
      let later : nat_le c.generation g ≡ false = grind (arith, nat_tests) in
      rw later (ap (λ (b : Bool). nat_le n c.length && b) (none_passed c.generation g n cs h.1 before) ∙ within_lesser n c.length (first_of (minima (map (λ x. x.length) cs))))
  | inr passed ↦
      let earlier : nat_le c.generation g ≡ true = grind (arith, nat_tests) in
      rw earlier (spared c.generation g n cs h.1)
]

-- a test of all cuts, in any order
all_step : (b r : Bool) (k : ℕ) → r ≡ (k == 0) → (b && r) ≡ ((if b then 0 else 1) + k == 0)
all_step true r k h = grind (arith, nat_tests)
all_step false r k h = grind (arith, nat_tests)

all_by_sum : (p : code.Cut → Bool) (cuts : List code.Cut) → list_all p cuts ≡ (sum_by (λ c. if p c then 0 else 1) cuts == 0)
all_by_sum p [] = refl
all_by_sum p (c ∷ cs) =
    all_step (p c) (list_all p cs) (sum_by (λ c. if p c then 0 else 1) cs) (all_by_sum p cs)
    ∙ ap (λ (k : ℕ). k == 0) (sym (sum_by-cons (λ c. if p c then 0 else 1) c cs))

all_permuted : (p : code.Cut → Bool) (cuts others : List code.Cut) → IsPermutation cuts others → list_all p cuts ≡ list_all p others
all_permuted p cuts others same =
    all_by_sum p cuts ∙ ap (λ (k : ℕ). k == 0) (sym (sum_by-IsPermutation (λ c. if p c then 0 else 1) cuts others same)) ∙ sym (all_by_sum p others)

survives_cuts : (g n : ℕ) (instance : List InstanceRecord) → survives instance g n ≡ list_all (leaves g n) (filter_map cut_in instance)
survives_cuts g n [] = refl
survives_cuts g n (Cut m begun ∷ rs) = ap (λ (b : Bool). (nat_le begun g || nat_le n m) && b) (survives_cuts g n rs)
survives_cuts g n (Create name regions ∷ rs) = survives_cuts g n rs
survives_cuts g n (Reigned r ∷ rs) = survives_cuts g n rs
survives_cuts g n (Map region star name ∷ rs) = survives_cuts g n rs
survives_cuts g n (Mode region before ∷ rs) = survives_cuts g n rs

-- where so many generations are up to that of the number, and this is looked up in the lengths
pub spared_by : (g n : ℕ) (instance : List InstanceRecord) (c : Cuts) (are : AreCuts instance c) (k : ℕ) → k ≡ up_to g c.generations.items
    → (o : Option ℕ) → o ≡ slice_get c.lengths.items k → is_within n o ≡ survives instance g n
spared_by g n instance c are k at o found =
    ap (is_within n) found
    ∙ ap (λ (l : List ℕ). is_within n (slice_get l k)) are.lengths
    ∙ ap (λ (i : ℕ). is_within n (slice_get (minima (map (λ x. x.length) are.cuts)) i)) (at ∙ ap (up_to g) are.generations)
    ∙ sym (survives_cuts g n instance ∙ all_permuted (leaves g n) (filter_map cut_in instance) are.cuts are.same ∙ spared 0 g n are.cuts (none_less (map (λ x. x.generation) are.cuts) are.order))

pub in_order_by : (cuts : List code.Cut) → IsNonDecreasingBy (λ x. x.generation) cuts → IsNonDecreasing (map (λ x. x.generation) cuts)
in_order_by cuts h i j d le within =
    let none : code.Cut = record { generation = 0; length = 0 } in
    let many : length (map (λ x. x.generation) cuts) ≡ length cuts = length-map cuts (λ x. x.generation) in
    let first : get_or (map (λ x. x.generation) cuts) i d ≡ (get_or cuts i none).generation = get_or-map (λ x. x.generation) cuts i none d (omega arith) in
    let second : get_or (map (λ x. x.generation) cuts) j d ≡ (get_or cuts j none).generation = get_or-map (λ x. x.generation) cuts j none d (omega arith) in
    omega (arith, h i j none le (omega arith))

pub filter_values : {A B C : Type 0} (f : B → Option C) (value : A → B) (xs : List A) → filter_map (λ x. f (value x)) xs ≡ filter_map f (map value xs)
filter_values f value [] = refl
filter_values f value (x ∷ xs) = ap (cons_option (f (value x))) (filter_values f value xs)

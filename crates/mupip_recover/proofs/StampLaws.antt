-- The stamp of a number, by the starts of reigns.
use Rattle.std.proofs.Common.{◌≡◌, inl, inr, ℕ, zero, suc, ◌-◌, ◌≤◌, ◌<◌, Bor, min, nat_le, Bool, true, false, List, [], ◌∷◌, ◌++◌, length, map, slice_get, Option, Some, None, refl, sym, ◌∙◌, ap, arith, if◌then◌else◌}
use Rattle.std.proofs.lemmas.Bool.{cases_lt}
use Rattle.std.proofs.lemmas.Bool.Decides.{nat_tests}
use Rattle.std.proofs.lemmas.List.{map-append}
use Rattle.std.proofs.lemmas.Option.{slice_get-map}
use Rattle.std.specs.List.{AllByRecursion}
use Rattle.std.specs.Option.{option_map, option_or}
use Rattle.std.specs.Slice.{IsItemAt}
use Rattle.global_defs.specs.Entry.{Reign, Stamp}
use Rattle.global_defs.specs.Prefix.{stamp_at}
use Rattle.mupip_recover.specs.Minima.{lesser, first_of, minima, up_to}
use Rattle.mupip_recover.specs.Stamps.{AreStarts}
use Rattle.gvn_model.specs.declared.reign.Reign as reigns
use Rattle.gvn_model.specs.Reigns.{stamp_value, reign_value}
use Rattle.mupip_recover.proofs.Least.{minima-last}
use Rattle.mupip_recover.proofs.Lookups.{item-slice_get}

-- the stamp of the last of so many first reigns
abbrev pub last_stamp : ℕ → List Reign → Option Stamp
last_stamp zero rs = None
last_stamp (suc k) rs = option_map (λ r. r.stamp) (slice_get rs k)

-- how many reigns count, with one more before them
abbrev with_first : Bool → ℕ → ℕ
with_first b (suc k) = suc (suc k)
with_first true zero = 1
with_first false zero = 0

if_one : (b : Bool) → (if b then 1 else 0) ≡ with_first b 0
if_one true = refl
if_one false = refl

up_to-first : (n s : ℕ) (ms : List ℕ) → up_to n (lesser s (first_of ms) ∷ ms) ≡ with_first (nat_le s n) (up_to n ms)
up_to-first n s [] = if_one (nat_le s n)
up_to-first n s (m ∷ ms) = elim (cases_lt n m) [
  | inl past ↦
      let a : nat_le m n ≡ false = grind (arith, nat_tests) in
      let b : nat_le (min s m) n ≡ nat_le s n = grind (arith, nat_tests) in
      rw (a, b) (if_one (nat_le s n))
  | inr within ↦
      let a : nat_le m n ≡ true = grind (arith, nat_tests) in
      let b : nat_le (min s m) n ≡ true = grind (arith, nat_tests) in
      rw (a, b) refl
]

up_to-bound : (n : ℕ) (xs : List ℕ) → up_to n xs ≤ length xs
up_to-bound n [] = omega arith
up_to-bound n (x ∷ xs) = elim (nat_le x n) as (λ b. (if b then suc (up_to n xs) else 0) ≤ length (x ∷ xs)) [ true ↦ omega (arith, up_to-bound n xs) | false ↦ omega arith ]

length-minima : (xs : List ℕ) → length (minima xs) ≡ length xs
length-minima [] = refl
length-minima (x ∷ xs) = omega (arith, length-minima xs)

found_or : (rs : List Reign) (k : ℕ) (o : Option Stamp) → k < length rs → option_or (option_map (λ r. r.stamp) (slice_get rs k)) o ≡ option_map (λ r. r.stamp) (slice_get rs k)
found_or [] k o within = absurd (omega arith)
found_or (r ∷ rs) zero o within = refl
found_or (r ∷ rs) (suc k) o within = found_or rs k o (omega arith)

one_more : (r : Reign) (rs : List Reign) (n k : ℕ) → k ≤ length rs
    → option_or (last_stamp k rs) (if nat_le r.start n then Some r.stamp else None) ≡ last_stamp (with_first (nat_le r.start n) k) (r ∷ rs)
one_more r rs n (suc k) within = found_or rs k (if nat_le r.start n then Some r.stamp else None) (omega arith)
one_more r rs n zero within = elim (nat_le r.start n) as (λ b. option_or None (if b then Some r.stamp else None) ≡ last_stamp (with_first b 0) (r ∷ rs)) [ true ↦ refl | false ↦ refl ]

length-starts : (rs : List Reign) → length (map (λ r. r.start) rs) ≡ length rs
length-starts [] = refl
length-starts (r ∷ rs) = omega (arith, length-starts rs)

pub last_begun : (n : ℕ) (rs : List Reign) → stamp_at n rs ≡ last_stamp (up_to n (minima (map (λ r. r.start) rs))) rs
last_begun n [] = refl
last_begun n (r ∷ rs) =
    let ms : List ℕ = minima (map (λ r. r.start) rs) in
    let within : up_to n ms ≤ length rs = omega (arith, up_to-bound n ms, length-minima (map (λ r. r.start) rs), length-starts rs) in
    ap (λ (o : Option Stamp). option_or o (if nat_le r.start n then Some r.stamp else None)) (last_begun n rs)
    ∙ one_more r rs n (up_to n ms) within
    ∙ ap (λ (k : ℕ). last_stamp k (r ∷ rs)) (sym (up_to-first n r.start ms))

-- where so many reigns count by these starts
pub is_last : (n : ℕ) (rs : List Reign) (starts : List ℕ) → AreStarts rs starts → (k : ℕ) → k ≡ up_to n starts → stamp_at n rs ≡ last_stamp k rs
is_last n rs starts are k is = last_begun n rs ∙ ap (λ (xs : List ℕ). last_stamp (up_to n xs) rs) (sym are) ∙ ap (λ (k : ℕ). last_stamp k rs) (sym is)

-- the reign that was looked up
by_found : (r : Option (Bor reigns.Reign)) → option_map (λ x. stamp_value x.now.stamp) r ≡ option_map (λ x. x.stamp) (option_map reign_value (option_map (λ x. x.now) r))
by_found None = refl
by_found (Some x) = refl

pub is_found : (n : ℕ) (rs : List reigns.Reign) (starts : List ℕ) → AreStarts (map reign_value rs) starts → (k : ℕ) → k ≡ up_to n starts → 0 < k → (r : Option (Bor reigns.Reign))
    → IsItemAt rs (k - 1) r → option_map (λ x. stamp_value x.now.stamp) r ≡ stamp_at n (map reign_value rs)
is_found n rs starts are k is some r at =
    let more : suc (k - 1) ≡ k = omega arith in
    by_found r
    ∙ ap (λ (o : Option reigns.Reign). option_map (λ x. x.stamp) (option_map reign_value o)) (item-slice_get rs (k - 1) r at)
    ∙ ap (option_map (λ x. x.stamp)) (sym (slice_get-map reign_value rs (k - 1)))
    ∙ ap (λ (j : ℕ). last_stamp j (map reign_value rs)) more
    ∙ sym (is_last n (map reign_value rs) starts are k is)

up_to_start : (n : ℕ) (rs : List Reign) → AllByRecursion (λ (r : Reign). r.start ≤ n) rs → AllByRecursion (λ x. x ≤ n) (map (λ r. r.start) rs)
up_to_start n [] all = tt
up_to_start n (r ∷ rs) all = (all.0, up_to_start n rs all.1)

-- one more reign that starts before none of the others
pub starts_more : (rs : List Reign) (r : Reign) (starts : List ℕ) → AllByRecursion (λ (q : Reign). q.start ≤ r.start) rs → AreStarts rs starts → AreStarts (rs ++ r ∷ []) (starts ++ r.start ∷ [])
starts_more rs r starts all are = ap (λ (l : List ℕ). l ++ r.start ∷ []) are ∙ sym (minima-last (map (λ r. r.start) rs) r.start (up_to_start r.start rs all)) ∙ ap minima (sym (map-append (λ (q : Reign). q.start) rs (r ∷ [])))

-- The mask of a transaction's regions.
use Rattle.std.proofs.Common.{◌≡◌, ◌≢◌, inl, inr, ℕ, zero, suc, ◌+◌, ◌-◌, ◌*◌, ◌/◌, ◌%◌, ◌≤◌, ◌<◌, ◌==◌, ◌^◌, ◌&&◌, not, nat_lt, Bool, true, false, List, [], ◌∷◌, length, filter, is_some, refl, sym, ◌∙◌, ap, subst, arith, bit_and}
use Rattle.std.proofs.lemmas.Bool.{cases_lt, and_parts}
use Rattle.std.proofs.lemmas.Bool.Decides.{nat_tests}
use Rattle.std.proofs.lemmas.Nat.Bits.{and_pow}
use Rattle.std.specs.Int.{bit_at}
use Rattle.std.specs.List.{AllByRecursion}
use Rattle.global_defs.specs.declared.limits.TheConstants.{MOST_REGIONS}
use Rattle.global_defs.specs.Entry.{Update, Transaction}
use Rattle.journal_defs.specs.Journal.{Item}
use Rattle.journal_defs.specs.Sequence.{REGIONS, in_mask}
use Rattle.journal_defs.specs.Split.{numbered, items_for, with_items, mask_with, mask_of, IsSplit}

-- a test of each list of so many flags
abbrev all_flags : ℕ → (List Bool → Bool) → Bool
all_flags zero test = test []
all_flags (suc n) test = all_flags n (λ bs. test (true ∷ bs)) && all_flags n (λ bs. test (false ∷ bs))

each_flags : (n : ℕ) (test : List Bool → Bool) → all_flags n test ≡ true → (bs : List Bool) → length bs ≡ n → test bs ≡ true
each_flags zero test all [] long = all
each_flags zero test all (b ∷ bs) long = absurd (omega arith)
each_flags (suc n) test all [] long = absurd (omega arith)
each_flags (suc n) test all (true ∷ bs) long = each_flags n (λ bs. test (true ∷ bs)) (and_parts (all_flags n (λ bs. test (true ∷ bs))) (all_flags n (λ bs. test (false ∷ bs))) all).0 bs (omega arith)
each_flags (suc n) test all (false ∷ bs) long = each_flags n (λ bs. test (false ∷ bs)) (and_parts (all_flags n (λ bs. test (true ∷ bs))) (all_flags n (λ bs. test (false ∷ bs))) all).1 bs (omega arith)

abbrev flag_at : List Bool → ℕ → Bool
flag_at [] r = false
flag_at (b ∷ bs) zero = b
flag_at (b ∷ bs) (suc r) = flag_at bs r

abbrev same_flag : Bool → Bool → Bool
same_flag true b = b
same_flag false b = not b

from_same : (a b : Bool) → same_flag a b ≡ true → a ≡ b
from_same true true h = refl
from_same false false h = refl
from_same true false h = cc
from_same false true h = cc

-- each of the eight bits is its flag
abbrev are_bits : List Bool → Bool
are_bits bs =
    let mask = mask_with (flag_at bs) REGIONS in
    nat_lt mask 256
    && (same_flag (in_mask mask 0) (flag_at bs 0) && (same_flag (in_mask mask 1) (flag_at bs 1) && (same_flag (in_mask mask 2) (flag_at bs 2) && (same_flag (in_mask mask 3) (flag_at bs 3)
    && (same_flag (in_mask mask 4) (flag_at bs 4) && (same_flag (in_mask mask 5) (flag_at bs 5) && (same_flag (in_mask mask 6) (flag_at bs 6) && same_flag (in_mask mask 7) (flag_at bs 7))))))))

all_bits : all_flags 8 are_bits ≡ true
all_bits = refl

-- the first eight values of a test
abbrev flags_of : (ℕ → Bool) → List Bool
flags_of has = has 0 ∷ has 1 ∷ has 2 ∷ has 3 ∷ has 4 ∷ has 5 ∷ has 6 ∷ has 7 ∷ []

bits : (has : ℕ → Bool) → are_bits (flags_of has) ≡ true
bits has = each_flags 8 are_bits all_bits (flags_of has) refl

in_it : (has : ℕ → Bool) (r : ℕ) → r < MOST_REGIONS → in_mask (mask_with has REGIONS) r ≡ has r
in_it has r low =
    let mask : ℕ = mask_with has REGIONS in
    let same = λ (k : ℕ). same_flag (in_mask mask k) (has k) in
    let zero_on = (and_parts (nat_lt mask 256) (same 0 && (same 1 && (same 2 && (same 3 && (same 4 && (same 5 && (same 6 && same 7))))))) (bits has)).1 in
    let one_on = (and_parts (same 0) (same 1 && (same 2 && (same 3 && (same 4 && (same 5 && (same 6 && same 7)))))) zero_on) in
    let two_on = (and_parts (same 1) (same 2 && (same 3 && (same 4 && (same 5 && (same 6 && same 7))))) one_on.1) in
    let three_on = (and_parts (same 2) (same 3 && (same 4 && (same 5 && (same 6 && same 7)))) two_on.1) in
    let four_on = (and_parts (same 3) (same 4 && (same 5 && (same 6 && same 7))) three_on.1) in
    let five_on = (and_parts (same 4) (same 5 && (same 6 && same 7)) four_on.1) in
    let six_on = (and_parts (same 5) (same 6 && same 7) five_on.1) in
    let seven_on = (and_parts (same 6) (same 7) six_on.1) in
    pick one_on.0 two_on.0 three_on.0 four_on.0 five_on.0 six_on.0 seven_on.0 seven_on.1 r low
  where
    mask : ℕ
    mask = mask_with has REGIONS

    pick : same_flag (in_mask mask 0) (has 0) ≡ true → same_flag (in_mask mask 1) (has 1) ≡ true → same_flag (in_mask mask 2) (has 2) ≡ true → same_flag (in_mask mask 3) (has 3) ≡ true
        → same_flag (in_mask mask 4) (has 4) ≡ true → same_flag (in_mask mask 5) (has 5) ≡ true → same_flag (in_mask mask 6) (has 6) ≡ true → same_flag (in_mask mask 7) (has 7) ≡ true
        → (r : ℕ) → r < MOST_REGIONS → in_mask mask r ≡ has r
    pick a b c d e f g h zero low = from_same (in_mask mask 0) (has 0) a
    pick a b c d e f g h (suc zero) low = from_same (in_mask mask 1) (has 1) b
    pick a b c d e f g h (suc (suc zero)) low = from_same (in_mask mask 2) (has 2) c
    pick a b c d e f g h (suc (suc (suc zero))) low = from_same (in_mask mask 3) (has 3) d
    pick a b c d e f g h (suc (suc (suc (suc zero)))) low = from_same (in_mask mask 4) (has 4) e
    pick a b c d e f g h (suc (suc (suc (suc (suc zero))))) low = from_same (in_mask mask 5) (has 5) f
    pick a b c d e f g h (suc (suc (suc (suc (suc (suc zero)))))) low = from_same (in_mask mask 6) (has 6) g
    pick a b c d e f g h (suc (suc (suc (suc (suc (suc (suc zero))))))) low = from_same (in_mask mask 7) (has 7) h
    pick a b c d e f g h (suc (suc (suc (suc (suc (suc (suc (suc r)))))))) low = absurd (omega arith)

small : (has : ℕ → Bool) → mask_with has REGIONS < 256
small has =
    let mask : ℕ = mask_with has REGIONS in
    let same = λ (k : ℕ). same_flag (in_mask mask k) (has k) in
    let is = (and_parts (nat_lt mask 256) (same 0 && (same 1 && (same 2 && (same 3 && (same 4 && (same 5 && (same 6 && same 7))))))) (bits has)).0 in
    grind (arith, nat_tests, is)

big : (j : ℕ) → 256 ≤ 2 ^ (j + 8)
big zero = omega arith
big (suc j) = let more = big j in let next : suc j + 8 ≡ suc (j + 8) = omega arith in subst (λ (k : ℕ). 256 ≤ 2 ^ k) (sym next) (omega (arith, more))

nothing : (m : ℕ) → 0 * m ≡ 0
nothing m = omega arith

div_small : (n d : ℕ) → n < d → n / d ≡ 0
div_small n d low = grind (arith, nat_tests)

no_bit : (n k : ℕ) → n < 256 → 8 ≤ k → in_mask n k ≡ false
no_bit n k low past =
    let is : bit_and n (2 ^ k) ≡ bit_at n k * 2 ^ k = and_pow n k in
    let place : k ≡ (k - 8) + 8 = omega arith in
    let power : 256 ≤ 2 ^ k = subst (λ (m : ℕ). 256 ≤ 2 ^ m) (sym place) (big (k - 8)) in
    let none : bit_at n k ≡ 0 = (let high : n / 2 ^ k ≡ 0 = div_small n (2 ^ k) (omega (arith, power)) in ap (λ (q : ℕ). q % 2) high) in
    let zero_is : bit_and n (2 ^ k) ≡ 0 = is ∙ ap (λ (b : ℕ). b * 2 ^ k) none ∙ nothing (2 ^ k) in
    ap (λ (m : ℕ). not (m == 0)) zero_is

-- a region past the eight has no items
none_past : (region : Update → ℕ) (i r : ℕ) (us : List Update) → AllByRecursion (λ u. region u < MOST_REGIONS) us → 8 ≤ r → filter (λ x. region x.update == r) (numbered i us) ≡ []
none_past region i r [] low past = refl
none_past region i r (u ∷ us) low past =
    let other : (region u == r) ≡ false = (let here : region u < MOST_REGIONS = low.0 in grind (arith, nat_tests, here, past)) in
    rw other (none_past region (suc i) r us low.1 past)

some_items : (n mask : ℕ) (t : Transaction) (xs : List Item) → nat_lt 0 (length xs) ≡ is_some (with_items n mask t xs)
some_items n mask t [] = refl
some_items n mask t (x ∷ xs) = grind (arith, nat_tests)

pub made : (region : Update → ℕ) (t : Transaction) → t.updates ≢ [] → AllByRecursion (λ u. region u < MOST_REGIONS) t.updates → IsSplit region (mask_of region t.updates) t
made region t some low = record {
  not_empty = some;
  regions = low;
  is_mask = λ n r. elim (cases_lt r 8) [
    | inl here ↦ in_it has r here ∙ some_items n (mask_of region t.updates) t (items_for region r t.updates)
    | inr past ↦
        let none : items_for region r t.updates ≡ [] = none_past region 0 r t.updates low past in
        no_bit (mask_of region t.updates) r (small has) past ∙ sym (ap (λ (xs : List Item). is_some (with_items n (mask_of region t.updates) t xs)) none)
  ];
}
  where
    has : ℕ → Bool
    has r = nat_lt 0 (length (items_for region r t.updates))

pub below : (region : Update → ℕ) (us : List Update) → mask_of region us < 2 ^ 8
below region us = small (λ r. nat_lt 0 (length (items_for region r us)))

-- How many bytes the parts of a layout have.
use Rattle.std.proofs.Common.{◌≡◌, ℕ, zero, suc, ◌+◌, ◌-◌, ◌*◌, ◌^◌, ◌≤◌, List, [], ◌∷◌, length, Bool, true, false, nat_eq, ap, ◌∙◌, arith, length-append, inl, inr}
use Rattle.std.specs.Prelude.{◌⊎◌}
use Rattle.global_defs.specs.declared.limits.TheConstants.{LONGEST_VALUE, NUMBERS_END}
use Rattle.repl_wire.specs.Layout.{Rest, Numbered, Within, Named, Skipped, Starting, Cycling, Rooted, Reigned, Valued, BehindKey, Keyed, Tagged, Updated, ReignCount, Lengthed}
use Rattle.gvn_key.proofs.Taking.{code_length}

-- bytes of K have from low to high bytes
abbrev pub Bounds : Rest → ℕ → ℕ → Type 0
Bounds K low high = (w : List ℕ) → K w → (low ≤ length w) × (length w ≤ high)

-- what stands behind a number, a name or skipped bytes
pub record Behind (K : ℕ → Rest) (fields : ℕ) (w : List ℕ) : Type 0 where
  pub value : ℕ
  pub rest : List ℕ
  pub holds : K value rest
  pub sizes : length w ≡ fields + length rest

pub behind_number : (r n : ℕ) (K : ℕ → Rest) (w : List ℕ) → Numbered r n K w → Behind K r w
behind_number zero n K w h = record { value = n; rest = w; holds = h; sizes = omega arith }
behind_number (suc r) n K [] h = absurd h
behind_number (suc r) n K (b ∷ w) h = let d = behind_number r (n * 256 + b) K w h.1 in record { value = d.value; rest = d.rest; holds = d.holds; sizes = omega (arith, d.sizes) }

pub named_length : (first : Bool) (n : ℕ) (K : Rest) (low high : ℕ) → Bounds K low high → Bounds (Named first n K) (n + low) (n + high)
named_length first zero K low high b w h = let c = b w h in (omega (arith, c.0), omega (arith, c.1))
named_length first (suc n) K low high b [] h = absurd h
named_length first (suc n) K low high b (x ∷ w) h = let c = named_length false n K low high b w h.1 in (omega (arith, c.0), omega (arith, c.1))

pub skipped_length : (n : ℕ) (K : Rest) (low high : ℕ) → Bounds K low high → Bounds (Skipped n K) (n + low) (n + high)
skipped_length zero K low high b w h = let c = b w h in (omega (arith, c.0), omega (arith, c.1))
skipped_length (suc n) K low high b [] h = absurd h
skipped_length (suc n) K low high b (x ∷ w) h = let c = skipped_length n K low high b w h in (omega (arith, c.0), omega (arith, c.1))

pub starting_length : (K : Rest) (low high : ℕ) → Bounds K low high → Bounds (Starting K) (8 + low) (8 + high)
starting_length K low high b w h = let d = behind_number 8 0 (Within 1 NUMBERS_END (λ _. K)) w h in let c = b d.rest d.holds.2 in (omega (arith, d.sizes, c.0), omega (arith, d.sizes, c.1))

pub cycling_length : (K : Rest) (low high : ℕ) → Bounds K low high → Bounds (Cycling K) (12 + low) (12 + high)
cycling_length K low high b w h =
    let d = behind_number 4 0 (Within 1 (2 ^ 32 - 1) (λ _. Starting K)) w h in
    let c = starting_length K low high b d.rest d.holds.2 in (omega (arith, d.sizes, c.0), omega (arith, d.sizes, c.1))

pub rooted_length : (K : Rest) (low high n : ℕ) → Bounds K low high → Bounds (Rooted K n) (n + 12 + low) (n + 12 + high)
rooted_length K low high n b w h = let c = named_length true n (Cycling K) (12 + low) (12 + high) (cycling_length K low high b) w h.2 in (omega (arith, c.0), omega (arith, c.1))

pub reigned_length : (count : ℕ) → Bounds (Reigned count) (14 * count) (28 * count)
reigned_length zero w h = let e : length w ≡ 0 = ap length h in (omega arith, omega arith)
reigned_length (suc count) [] h = absurd h
reigned_length (suc count) (b ∷ w) h = let c = rooted_length (Reigned count) (14 * count) (28 * count) b (reigned_length count) w h in (omega (arith, c.0, h.0, h.1), omega (arith, c.1, h.0, h.1))

pub valued_length : (K : Rest) (low high : ℕ) → Bounds K low high → Bounds (Valued K) (2 + low) (1502 + high)
valued_length K low high b w h =
    let d = behind_number 2 0 (Within 0 LONGEST_VALUE (λ n. Skipped n K)) w h in
    let c = skipped_length d.value K low high b d.rest d.holds.2 in (omega (arith, d.sizes, c.0, d.holds.1), omega (arith, d.sizes, c.1, d.holds.1))

-- how many bytes stand behind a key at least, and at most
abbrev pub least_behind : Bool → ℕ
least_behind true = 2
least_behind false = 0

abbrev pub most_behind : Bool → ℕ
most_behind true = 1502
most_behind false = 0

pub behind_key_length : (set : Bool) (K : Rest) (low high : ℕ) → Bounds K low high → Bounds (BehindKey set K) (least_behind set + low) (most_behind set + high)
behind_key_length true K low high b w h = valued_length K low high b w h
behind_key_length false K low high b w h = let c = b w h in (omega (arith, c.0), omega (arith, c.1))

pub keyed_length : (set : Bool) (K : Rest) (low high n : ℕ) → Bounds K low high → Bounds (Keyed set K n) (n + least_behind set + low) (n + most_behind set + high)
keyed_length set K low high n b w h =
    let c = behind_key_length set K low high b h.back h.there in
    let e : length w ≡ length h.front + length h.back = ap length h.is ∙ length-append h.front h.back in
    let long : length h.front ≡ n = h.here.long in
    (omega (arith, c.0, e, long), omega (arith, c.1, e, long))

pub tagged_length : (K : Rest) (low high tag : ℕ) → Bounds K low high → Bounds (Tagged K tag) (3 + low) (1758 + high)
tagged_length K low high tag b [] h = absurd h.2
tagged_length K low high tag b (n ∷ w) h =
    let k = h.2 in
    let c = keyed_length (nat_eq tag 1) K low high n b w k in
    let in_range : (2 ≤ n) × (n ≤ 255) = code_length n k.front k.here in
    let most : most_behind (nat_eq tag 1) ≤ 1502 = most_of (nat_eq tag 1) in
    (omega (arith, c.0, in_range.0), omega (arith, c.1, in_range.1, most))
  where
    most_of : (set : Bool) → most_behind set ≤ 1502
    most_of true = omega arith
    most_of false = omega arith

pub updated_length : (count : ℕ) → Bounds (Updated count) (4 * count) (1759 * count)
updated_length zero w h = let e : length w ≡ 0 = ap length h in (omega arith, omega arith)
updated_length (suc count) [] h = absurd h
updated_length (suc count) (b ∷ w) h = let c = tagged_length (Updated count) (4 * count) (1759 * count) b (updated_length count) w h in (omega (arith, c.0), omega (arith, c.1))

-- a count of reigns and the reigns: none, or 14 bytes at least
pub reign_count_length : (w : List ℕ) → ReignCount w → (length w ≡ 4) ⊎ (18 ≤ length w)
reign_count_length w h = let d = behind_number 4 0 Reigned w h in by_count d.value d.rest d.holds d.sizes
  where
    by_count : (n : ℕ) (v : List ℕ) → Reigned n v → length w ≡ 4 + length v → (length w ≡ 4) ⊎ (18 ≤ length w)
    by_count zero v r e = let z : length v ≡ 0 = ap length r in inl (omega arith)
    by_count (suc n) v r e = let c = reigned_length (suc n) v r in inr (omega (arith, c.0))

pub lengthed_length : (w : List ℕ) → Lengthed w → (length w ≡ 12) ⊎ (26 ≤ length w)
lengthed_length w h = let d = behind_number 8 0 (Within 0 (NUMBERS_END - 1) (λ _. ReignCount)) w h in by_rest d.rest d.sizes (reign_count_length d.rest d.holds.2)
  where
    by_rest : (v : List ℕ) → length w ≡ 8 + length v → (length v ≡ 4) ⊎ (18 ≤ length v) → (length w ≡ 12) ⊎ (26 ≤ length w)
    by_rest v e s = elim s as (λ _. (length w ≡ 12) ⊎ (26 ≤ length w)) [ inl a ↦ inl (omega arith) | inr b ↦ inr (omega arith) ]

-- The greatest starts that records leave.
use Rattle.std.proofs.Common.{◌≡◌, ℕ, zero, suc, ◌+◌, ◌-◌, ◌^◌, ◌<◌, ◌≤◌, ◌&&◌, Bool, true, false, min, nat_le, List, [], ◌∷◌, length, map, drop, get_or, None, refl, ◌∙◌, ap, arith}
use Rattle.std.proofs.lemmas.Bool.Decides.{nat_tests}
use Rattle.std.proofs.Math.Nat.{min-le_left, min-le_right, le-min}
use Rattle.std.specs.Prelude.{slice_index_or}
use Rattle.std.specs.List.{list_all}
use Rattle.journal_defs.specs.Instance.{InstanceRecord, Create, Reigned, Cut, Map, Mode}
use Rattle.journal_defs.specs.Surviving.{spares_start}
use Rattle.instance_file.specs.Values.{record_value}
use Rattle.instance_file.specs.Walks.{bound, bounds_behind, surviving_in}
use Rattle.instance_file.specs.declared.record.InstanceRecord as code
use Rattle.instance_file.specs.declared.record.InstanceRecord.TheVariants as variant
use Rattle.gvn_model.specs.declared.reign.Reign as reigns

both_up_to : (s n b : ℕ) → nat_le s n && nat_le s b ≡ nat_le s (min n b)
both_up_to s n b = by (nat_le s n) (nat_le s b) (nat_le s (min n b)) refl refl refl
  where
    by : (x y z : Bool) → nat_le s n ≡ x → nat_le s b ≡ y → nat_le s (min n b) ≡ z → x && y ≡ z
    by true true true p q r = refl
    by true true false p q r =
        let low : s ≤ min n b = le-min (grind (arith, nat_tests, p)) (grind (arith, nat_tests, q)) in
        absurd (grind (arith, nat_tests, r, low))
    by true false true p q r =
        let low = min-le_right n b in
        absurd (grind (arith, nat_tests, q, r, low))
    by true false false p q r = refl
    by false y true p q r =
        let low = min-le_left n b in
        absurd (grind (arith, nat_tests, p, r, low))
    by false y false p q r = refl

-- records leave the starts up to their bound
pub stays_bound : (start : ℕ) → start ≤ 2 ^ 64 - 1 → (rs : List InstanceRecord) → list_all (spares_start start) rs ≡ nat_le start (bound rs)
stays_bound start low [] = grind (arith, nat_tests, low)
stays_bound start low (Cut n g ∷ rs) = ap (λ (b : Bool). nat_le start n && b) (stays_bound start low rs) ∙ both_up_to start n (bound rs)
stays_bound start low (Create name regions ∷ rs) = stays_bound start low rs
stays_bound start low (Reigned r ∷ rs) = stays_bound start low rs
stays_bound start low (Map region star name ∷ rs) = stays_bound start low rs
stays_bound start low (Mode region before ∷ rs) = stays_bound start low rs

pub length-bounds : (rs : List InstanceRecord) → length (bounds_behind rs) ≡ length rs
length-bounds [] = refl
length-bounds (r ∷ rs) = ap suc (length-bounds rs)

bound_at : (xs : List code.InstanceRecord) (i d : ℕ) → i < length xs → get_or (bounds_behind (map record_value xs)) i d ≡ bound (map record_value (drop (suc i) xs))
bound_at [] i d inside = omega (arith, inside)
bound_at (x ∷ xs) zero d inside = refl
bound_at (x ∷ xs) (suc i) d inside = bound_at xs i d (omega (arith, inside))

pub bound_here : (xs : List code.InstanceRecord) (bs : List ℕ) (i : ℕ) → bs ≡ bounds_behind (map record_value xs) → i < length xs → slice_index_or bs i 0 ≡ bound (map record_value (drop (i + 1) xs))
bound_here xs bs i is inside =
    let one : suc i ≡ i + 1 = omega arith in
    ap (λ (l : List ℕ). slice_index_or l i 0) is ∙ bound_at xs i 0 inside ∙ ap (λ (n : ℕ). bound (map record_value (drop n xs))) one

-- a record that is no reign
pub not_reigned : (behind : List InstanceRecord) (x : code.InstanceRecord) → ((r : reigns.Reign) → x ≡ variant.Reign r → ⊥) → None ≡ surviving_in behind (record_value x)
not_reigned behind (variant.Reign r) never = absurd (never r refl)
not_reigned behind (variant.Create name regions) never = refl
not_reigned behind (variant.Cut n g) never = refl
not_reigned behind (variant.Map region star name) never = refl
not_reigned behind (variant.Mode region before) never = refl

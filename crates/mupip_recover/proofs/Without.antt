-- The first generation that keeps no images behind an epoch.
use Rattle.std.proofs.Common.{◌≡◌, ℕ, Bool, true, false, cond, List, [], ◌∷◌, map, Some, None, refl, ◌∙◌, ap}
use Rattle.std.specs.List.{find, list_any}
use Rattle.std.specs.Option.{option_map}
use Rattle.std.specs.Ordering.{nat_cmp}
use Rattle.std.specs.BTreeMap.{is_at}
use Rattle.std.specs.BTreeSet.{BTreeSet, contains}
use Rattle.journal_defs.specs.Sequence.{Placed}
use Rattle.journal_defs.specs.Epochs.{is_without}
use Rattle.jnl_record.specs.declared.placed.PlacedRecord.{PlacedRecord}
use Rattle.jnl_record.specs.Values.{placed_value}

-- among no generations there is none
pub none_found : (s : BTreeSet ℕ) (gs : List ℕ) → s.keys ≡ [] → find (contains nat_cmp s) gs ≡ None
none_found s [] empty = refl
none_found s (g ∷ gs) empty =
    let none : contains nat_cmp s g ≡ false = ap (list_any (is_at (nat_cmp g))) empty in
    ap (λ (b : Bool). cond b (Some g) (find (contains nat_cmp s) gs)) none ∙ none_found s gs empty

-- among those without images it is that of the first record which stands in one
pub first_found : (journal : List Placed) (s : BTreeSet ℕ) (behind : List PlacedRecord) → ((p : Placed) → contains nat_cmp s p.generation ≡ is_without journal p)
    → find (contains nat_cmp s) (map (λ p. p.generation) behind) ≡ option_map (λ p. p.generation) (find (is_without journal) (map placed_value behind))
first_found journal s [] are = refl
first_found journal s (x ∷ xs) are =
    ap (λ (b : Bool). cond b (Some x.generation) (find (contains nat_cmp s) (map (λ p. p.generation) xs))) (are (placed_value x)) ∙ by (is_without journal (placed_value x)) (first_found journal s xs are)
  where
    by : (b : Bool) → find (contains nat_cmp s) (map (λ p. p.generation) xs) ≡ option_map (λ p. p.generation) (find (is_without journal) (map placed_value xs))
        → cond b (Some x.generation) (find (contains nat_cmp s) (map (λ p. p.generation) xs)) ≡ option_map (λ p. p.generation) (cond b (Some (placed_value x)) (find (is_without journal) (map placed_value xs)))
    by true rest = refl
    by false rest = rest

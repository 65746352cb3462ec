-- Regions that count their images anew behind an EPOCH.
use Rattle.std.proofs.Common.{◌≡◌, ◌≤◌, ◌<◌, ◌+◌, ◌-◌, ℕ, zero, suc, false, List, [], ◌∷◌, ◌++◌, length, map, take, drop, replicate, Some, None, option_map, refl, sym, ◌∙◌, ap, subst, arith}
use Rattle.std.specs.Prelude.{slice_get}
use Rattle.std.specs.List.{AllByRecursion}
use Rattle.std.proofs.lemmas.Option.{slice_get-map, slice_get_past}
use Rattle.journal_laws.proofs.ImageSteps.{all_take}
use Rattle.jnl_record.specs.declared.record.JnlRecord.{JnlRecord}
use Rattle.jnl_record.specs.Values.{record_value}
use Rattle.region_journals.specs.Journals.{listed}
use Rattle.region_journals.specs.Logging.{MayBeAppended}
use Rattle.region_epochs.specs.Flushed.{one_each}
use Rattle.journal_defs.specs.Journal.{Mark}
use Rattle.journal_defs.specs.Epochs.{Chosen}
use Rattle.journal_defs.specs.Undo.{fresh}
use Rattle.region_store.specs.Region.{Standing, HoldsRegion, with_marks}

-- what counting anew makes of a region
pub record IsBegun (x y : Standing) : Type 0 where
  pub is : y ≡ with_marks x (replicate (length x.pool.leaves) false)
  pub holds : (e : Chosen) (bytes : List ℕ) (m : Mark) → m.blocks ≡ length x.pool.leaves → HoldsRegion e bytes x → HoldsRegion (fresh m) bytes y

-- ---- lists that lose their last item

pub front_get : {X : Type 0} (xs : List X) (x : X) (r : ℕ) (y : X) → slice_get xs r ≡ Some y → slice_get (xs ++ x ∷ []) r ≡ Some y
front_get [] x zero y is = let gone : None ≡ Some y = is in cc
front_get [] x (suc r) y is = let gone : None ≡ Some y = is in cc
front_get (z ∷ xs) x zero y is = is
front_get (z ∷ xs) x (suc r) y is = front_get xs x r y is

pub last_get : {X : Type 0} (xs : List X) (x : X) → slice_get (xs ++ x ∷ []) (length xs) ≡ Some x
last_get [] x = refl
last_get (z ∷ xs) x = last_get xs x

-- ---- one record of a list

pub one_of : (rs : List JnlRecord) (k : ℕ) → k < length rs → (x : JnlRecord) × (slice_get rs k ≡ Some x) × (take ((k + 1) - k) (drop k rs) ≡ x ∷ [])
one_of rs k low =
    let is = at rs k low in
    (is.0, is.1, subst (λ (n : ℕ). take n (drop k rs) ≡ is.0 ∷ []) (sym one) is.2)
  where
    one : (k + 1) - k ≡ 1
    one = omega arith

    at : (rs : List JnlRecord) (k : ℕ) → k < length rs → (x : JnlRecord) × (slice_get rs k ≡ Some x) × (take 1 (drop k rs) ≡ x ∷ [])
    at [] k low = absurd (omega (arith, low))
    at (x ∷ rs) zero low = (x, refl, refl)
    at (x ∷ rs) (suc k) low = at rs k (omega (arith, low))

pub one_waits : (rs : List JnlRecord) (k : ℕ) → k < length rs → map record_value (take ((k + 1) - k) (drop k rs)) ≡ one_each rs k
one_waits rs k low =
    let is = one_of rs k low in
    ap (map record_value) is.2 ∙ ap listed (ap (option_map record_value) (sym is.1) ∙ sym (slice_get-map record_value rs k))

pub one_may_be : (rs : List JnlRecord) (k : ℕ) → k < length rs → AllByRecursion MayBeAppended rs → AllByRecursion MayBeAppended (take ((k + 1) - k) (drop k rs))
one_may_be rs k low all = all_take MayBeAppended ((k + 1) - k) (drop k rs) (all_drop k rs all)
  where
    all_drop : (k : ℕ) (rs : List JnlRecord) → AllByRecursion MayBeAppended rs → AllByRecursion MayBeAppended (drop k rs)
    all_drop zero rs all = all
    all_drop (suc k) [] all = tt
    all_drop (suc k) (x ∷ rs) all = all_drop k rs all.1

pub none_waits_past : (rs : List JnlRecord) (r : ℕ) → length rs ≤ r → one_each rs r ≡ []
none_waits_past rs r past = ap listed (slice_get-map record_value rs r ∙ ap (option_map record_value) (slice_get_past rs r past))

-- Rising cells stay rising through updates, and cells of their form keep it.
use Rattle.std.proofs.Common.{◌≡◌, ℕ, ◌≤◌, Bool, true, false, cond, List, [], ◌∷◌, length, filter, refl}
use Rattle.std.specs.declared.cmp.Ordering.{Ordering}
use Rattle.std.specs.declared.cmp.Ordering.TheVariants.{Less, Equal, Greater}
use Rattle.std.specs.List.{AllByRecursion}
use Rattle.std.specs.FinMap as globals
use Rattle.std.specs.FinMap.Entries as lists
use Rattle.global_defs.specs.declared.limits.TheConstants.{LONGEST_VALUE}
use Rattle.journal_defs.specs.Leaves.{Cell, IsEncoded, IsCell}
use Rattle.block_fmt.specs.Cells.{AreAbove}
use Rattle.gvt_leaf.specs.Order.{Rise}
use Rattle.gvt_leaf.proofs.Bytes.{below_flips, above_less}
use Rattle.global_defs.proofs.Basics.{bytes_cmp}

above_put : (low : List ℕ) (key value : List ℕ) (cells : List Cell) → AreAbove cells low → bytes_cmp key low ≡ Greater → AreAbove (globals.put bytes_cmp key value cells) low
above_put low key value [] h k = (k, tt)
above_put low key value (c ∷ cs) h k = by (bytes_cmp key c.0) (above_put low key value cs h.1 k)
  where
    by : (o : Ordering) → AreAbove (globals.put bytes_cmp key value cs) low → AreAbove (lists.by_order o ((key, value) ∷ c ∷ cs) ((c.0, value) ∷ cs) (c ∷ globals.put bytes_cmp key value cs)) low
    by Less rest = (k, h)
    by Equal rest = (h.0, h.1)
    by Greater rest = (h.0, rest)

pub rise_put : (key value : List ℕ) (cells : List Cell) → Rise cells → Rise (globals.put bytes_cmp key value cells)
rise_put key value [] h = (tt, tt)
rise_put key value (c ∷ cs) h = by (bytes_cmp key c.0) refl (rise_put key value cs h.1)
  where
    by : (o : Ordering) → bytes_cmp key c.0 ≡ o → Rise (globals.put bytes_cmp key value cs) → Rise (lists.by_order o ((key, value) ∷ c ∷ cs) ((c.0, value) ∷ cs) (c ∷ globals.put bytes_cmp key value cs))
    by Less e rest = let high : bytes_cmp c.0 key ≡ Greater = below_flips key c.0 e in ((high, above_less cs c.0 key high h.0), h)
    by Equal e rest = (h.0, h.1)
    by Greater e rest = (above_put c.0 key value cs h.0 e, rest)

pub all_filter : (P : Cell → Type 0) (p : Cell → Bool) (cells : List Cell) → AllByRecursion P cells → AllByRecursion P (filter p cells)
all_filter P p [] h = tt
all_filter P p (c ∷ cs) h = elim (p c) as (λ b. AllByRecursion P (cond b (c ∷ filter p cs) (filter p cs))) [
  | true ↦ (h.0, all_filter P p cs h.1)
  | false ↦ all_filter P p cs h.1
]

pub all_put : (key value : List ℕ) (cells : List Cell) → IsEncoded key → length value ≤ LONGEST_VALUE → AllByRecursion IsCell cells → AllByRecursion IsCell (globals.put bytes_cmp key value cells)
all_put key value [] k v h = ((k, v), tt)
all_put key value (c ∷ cs) k v h = by (bytes_cmp key c.0) (all_put key value cs k v h.1)
  where
    by : (o : Ordering) → AllByRecursion IsCell (globals.put bytes_cmp key value cs) → AllByRecursion IsCell (lists.by_order o ((key, value) ∷ c ∷ cs) ((c.0, value) ∷ cs) (c ∷ globals.put bytes_cmp key value cs))
    by Less rest = ((k, v), h)
    by Equal rest = ((h.0.0, v), h.1)
    by Greater rest = (h.0, rest)

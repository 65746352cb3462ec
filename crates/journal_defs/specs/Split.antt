-- A transaction as parts, one a region (GT.M: a transaction over several regions has records in the journal of each).
use Rattle.std.specs.Prelude.{◌≡◌, ◌≢◌, ℕ, suc, ◌+◌, ◌<◌, ◌==◌, ◌^◌, nat_lt, Bool, if◌then◌else◌, List, [], ◌∷◌, length, filter, Option, Some, None, is_some}
use Rattle.std.specs.List.{AllByRecursion}
use Rattle.global_defs.specs.declared.limits.TheConstants.{MOST_REGIONS}
use Rattle.global_defs.specs.Entry.{Update, Transaction}
use Rattle.journal_defs.specs.Journal.{Item, Part}
use Rattle.journal_defs.specs.Sequence.{REGIONS, in_mask}

-- updates with their positions, the first one with this
abbrev pub numbered : ℕ → List Update → List Item
numbered i [] = []
numbered i (u ∷ us) = record { position = i; update = u } ∷ numbered (suc i) us

-- the items of a region, where `region` gives an update's
abbrev pub items_for : (Update → ℕ) → ℕ → List Update → List Item
items_for region r us = filter (λ x. region x.update == r) (numbered 0 us)

-- a part of these items, where there are any
abbrev pub with_items : ℕ → ℕ → Transaction → List Item → Option Part
with_items n mask t [] = None
with_items n mask t (x ∷ xs) = Some (record { number = n; mask = mask; origin = t.origin; count = length t.updates; items = x ∷ xs })

-- the parts of a transaction as entry n
abbrev pub split : (Update → ℕ) → ℕ → ℕ → Transaction → ℕ → Option Part
split region n mask t r = with_items n mask t (items_for region r t.updates)

-- the mask with these regions
abbrev pub mask_with : (ℕ → Bool) → List ℕ → ℕ
mask_with has [] = 0
mask_with has (r ∷ rs) = (if has r then 2 ^ r else 0) + mask_with has rs

-- the regions of a transaction, as a mask: those that have an item
abbrev pub mask_of : (Update → ℕ) → List Update → ℕ
mask_of region us = mask_with (λ r. nat_lt 0 (length (items_for region r us))) REGIONS

-- What a transaction and a mask have to be.
pub record IsSplit (region : Update → ℕ) (mask : ℕ) (t : Transaction) : Type 0 where
  pub not_empty : t.updates ≢ []
  pub regions : AllByRecursion (λ u. region u < MOST_REGIONS) t.updates
  -- the mask is that of the regions that have a part
  pub is_mask : (n r : ℕ) → in_mask mask r ≡ is_some (split region n mask t r)

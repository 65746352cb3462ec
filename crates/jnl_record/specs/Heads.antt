-- A TCOM record as its head and its items.
use Rattle.std.specs.Prelude.{◌≡◌, ℕ, ◌^◌, ◌<◌, ◌≤◌, ◌∷◌, ◌++◌, List, length}
use Rattle.std.specs.Int.{to_be_bytes, w16, w32, w64}
use Rattle.std.specs.List.{AllByRecursion}
use Rattle.global_defs.specs.declared.limits.TheConstants.{MOST_UPDATES}
use Rattle.global_defs.specs.Fields.{IsNumber, IsOrigin}
use Rattle.journal_defs.specs.Journal.{Item, Rise, IsItem}
use Rattle.gvn_model.specs.Entries.{origin_value}
use Rattle.jnl_record.specs.declared.parts.Head.{Head}

pub record IsHead (h : Head) : Type 0 where
  pub number : IsNumber h.number
  pub mask : h.mask < 2 ^ 8
  pub origin : IsOrigin (origin_value h.origin)
  pub count : (1 ≤ h.count) × (h.count ≤ MOST_UPDATES)
  pub items : h.items < 2 ^ 16

abbrev pub spelled_head : Head → List ℕ
spelled_head h = to_be_bytes w64 h.number ++ h.mask ∷ h.origin.updater ∷ to_be_bytes w32 h.origin.serial ++ to_be_bytes w16 h.count ++ to_be_bytes w16 h.items

-- so many items of a transaction of `count` updates, with positions that rise from `low` on
pub record AreItems (low n count : ℕ) (items : List Item) : Type 0 where
  pub many : length items ≡ n
  pub rise : Rise low items
  pub each : AllByRecursion (IsItem count) items

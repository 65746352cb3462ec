-- What rises along a sequence and a list of reigns (GT.M: job numbers of a process, history records of the instance file).
use Rattle.std.specs.Prelude.{◌≡◌, ℕ, ◌<◌, nat_le, List, [], ◌∷◌, filter, slice_get, Some}
use Rattle.global_defs.specs.Entry.{Sequence, Entry, Reign}

-- among the entries of one stamp each updater's serials rise
abbrev pub SerialsRise : Sequence → Type 0
SerialsRise seq = (i j : ℕ) (d e : Entry) → i < j → slice_get seq i ≡ Some d → slice_get seq j ≡ Some e → d.stamp ≡ e.stamp
    → d.transaction.origin.updater ≡ e.transaction.origin.updater → d.transaction.origin.serial < e.transaction.origin.serial

-- starts rise, from above this one
abbrev pub StartsRise : ℕ → List Reign → Type 0
StartsRise low [] = Unit {0}
StartsRise low (r ∷ rs) = (low < r.start) × StartsRise r.start rs

-- the reigns that have begun by a number
abbrev pub begun_by : ℕ → List Reign → List Reign
begun_by n reigns = filter (λ r. nat_le r.start n) reigns

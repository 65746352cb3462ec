-- Generations that keep no images.
use Rattle.std.specs.Prelude.{◌≡◌, List, ℕ, map}
use Rattle.std.specs.Ordering.{nat_cmp}
use Rattle.std.specs.BTreeSet.{BTreeSet, contains}
use Rattle.journal_defs.specs.Sequence.{Placed}
use Rattle.journal_defs.specs.Epochs.{is_without}
use Rattle.jnl_record.specs.declared.placed.PlacedRecord.{PlacedRecord}
use Rattle.jnl_record.specs.Values.{placed_value}

-- the set has the generations of these records that keep no images
abbrev pub AreWithout : List PlacedRecord → BTreeSet ℕ → Type 0
AreWithout journal made = (p : Placed) → contains nat_cmp made p.generation ≡ is_without (map placed_value journal) p

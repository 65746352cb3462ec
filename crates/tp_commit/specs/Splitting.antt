-- Parts of a transaction, each a region with its items.
use Rattle.std.specs.Prelude.{ℕ, suc, nat_lt, if◌then◌else◌, List, [], ◌∷◌, length, map}
use Rattle.global_defs.specs.Entry.{Update, Item}
use Rattle.journal_defs.specs.Sequence.{REGIONS}
use Rattle.journal_defs.specs.Split.{items_for}
use Rattle.tp_commit.specs.declared.parts.Part.{Part}

abbrev pub part_value : Part → ℕ × List Item
part_value p = (p.region, p.items)

-- the lists that have an item, with the numbers of their regions, the first one with this
abbrev pub parts_from : ℕ → List (List Item) → List (ℕ × List Item)
parts_from r [] = []
parts_from r (xs ∷ more) = if nat_lt 0 (length xs) then (r, xs) ∷ parts_from (suc r) more else parts_from (suc r) more

-- the parts of updates, where `region` gives the region of each
abbrev pub parts_of : (Update → ℕ) → List Update → List (ℕ × List Item)
parts_of region us = parts_from 0 (map (λ r. items_for region r us) REGIONS)

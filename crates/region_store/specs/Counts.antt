-- How many nodes regions have.
use Rattle.std.specs.Prelude.{ℕ, List, map, slice_index_or}
use Rattle.std.specs.FinMap as globals
use Rattle.region_store.specs.Region.{Standing}

-- how many nodes the region of this number has
abbrev pub nodes_at : List Standing → ℕ → ℕ
nodes_at regions r = slice_index_or (map (λ s. globals.len s.globals) regions) r 0

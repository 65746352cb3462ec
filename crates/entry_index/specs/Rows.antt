-- Room for rows.
use Rattle.std.specs.Prelude.{◌≤◌, ◌+◌, length, vec_capacity}
use Rattle.entry_index.specs.declared.index.EntryIndex.{EntryIndex}

-- there is room for the row of one entry more
abbrev pub HasRowRoom : EntryIndex → Type 0
HasRowRoom e = length e.places.items + e.regions ≤ vec_capacity e.places

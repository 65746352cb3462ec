use Rattle.std.proofs.Common.{◌≡◌, true}
use Rattle.entry_index.specs.Table.{AddsRow}
use Rattle.entry_index.proofs.building.push_places.Given as goal

abbrev pub invariant-loop-region : goal.invariant-loop-region
invariant-loop-region l = record {
  regions : l.made.regions ≡ l.fn.made.regions;
  row : AddsRow l.row l.region true l.fn.made.places.items l.made.places.items;
}

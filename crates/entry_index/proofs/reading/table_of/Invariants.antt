use Rattle.std.proofs.Common.{◌≡◌, map, take}
use Rattle.std.specs.Option.{option_map}
use Rattle.mupip_recover.specs.Table.{part_in_column}
use Rattle.entry_index.specs.Parts.{read_value}
use Rattle.entry_index.proofs.reading.table_of.Given as goal

abbrev pub invariant-loop-found : goal.invariant-loop-found
invariant-loop-found l = map (λ c. part_in_column 0 c.items) l.columns.items ≡ map (option_map read_value) (take l.found-index l.parts)

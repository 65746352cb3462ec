use Rattle.std.proofs.Common.{◌≡◌, ◌≤◌, take, count_by}
use Rattle.entry_index.specs.Signs.{is_part_sign}
use Rattle.entry_index.proofs.table.count_in.Given as goal

abbrev pub invariant-loop-placed : goal.invariant-loop-placed
invariant-loop-placed l = record {
  counted : l.count ≡ count_by is_part_sign (take l.placed-index l.signs);
  bound : l.count ≤ l.placed-index;
}

use Rattle.std.proofs.Common.{◌≡◌, take, count_by, sum_by}
use Rattle.entry_index.specs.Signs.{is_part_sign}
use Rattle.entry_index.proofs.table.count_all.Given as goal

abbrev pub invariant-loop-region : goal.invariant-loop-region
invariant-loop-region l = l.count ≡ sum_by (λ s. count_by is_part_sign s.items) (take l.region-index l.signs)

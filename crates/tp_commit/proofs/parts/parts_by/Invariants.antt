use Rattle.std.proofs.Common.{◌≡◌, ◌++◌, length, drop}
use Rattle.tp_commit.specs.Splitting.{parts_from}
use Rattle.tp_commit.proofs.parts.parts_by.Given as goal

-- the lists from this region on are as they were, and their parts complete those so far
abbrev pub invariant-loop-region : goal.invariant-loop-region
invariant-loop-region l = record {
  count : length l.lists.items ≡ 8;
  rest : drop l.region l.lists.items ≡ drop l.region l.initial.lists.items;
  so_far : l.parts ++ parts_from l.region (drop l.region l.initial.lists.items) ≡ parts_from 0 l.initial.lists.items;
}

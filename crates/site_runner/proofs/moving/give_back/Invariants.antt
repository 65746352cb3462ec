use Rattle.std.proofs.Common.{◌≡◌, ◌+◌, ◌≤◌, ◌++◌, map, reverse, length, vec_len, vec_capacity}
use Rattle.site_runner.proofs.moving.give_back.Given as goal
use Rattle.site_runner.specs.Sites.{disk_in}

abbrev pub invariant-loop-slot : goal.invariant-loop-slot
invariant-loop-slot g l = record {
  split : map disk_in l.fn.slots.items ≡ l.disks.items ++ reverse (map disk_in l.slots.items);
  room : length l.disks.items + length l.slots.items ≤ vec_capacity l.disks;
}

abbrev pub decreases-loop-slot : goal.decreases-loop-slot
decreases-loop-slot g l = vec_len l.slots

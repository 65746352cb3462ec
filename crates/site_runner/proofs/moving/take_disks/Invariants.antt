use Rattle.std.proofs.Common.{◌≡◌, ◌+◌, ◌≤◌, ◌++◌, map, reverse, length, vec_len, vec_capacity}
use Rattle.site_runner.specs.Moved.{free_slot}
use Rattle.site_runner.proofs.moving.take_disks.Given as goal

abbrev pub invariant-loop-disk : goal.invariant-loop-disk
invariant-loop-disk g l = record {
  split : map free_slot l.fn.disks.items ≡ map free_slot l.disks.items ++ reverse l.slots.items;
  room : length l.disks.items + length l.slots.items ≤ vec_capacity l.slots;
  same : length l.disks.items + length l.slots.items ≤ vec_capacity l.disks;
}

abbrev pub decreases-loop-disk : goal.decreases-loop-disk
decreases-loop-disk g l = vec_len l.disks

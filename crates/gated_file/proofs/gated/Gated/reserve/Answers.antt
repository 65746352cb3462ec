use Rattle.std.proofs.Common.{rules, ◌≡◌, ◌≤◌, ◌<◌, ◌+◌, ◌*◌, ◌^◌, min, length, vec_capacity, refl}
use Rattle.std.specs.VecDeque.{deque_capacity}
use Rattle.gated_file.proofs.Others.{more_room, ready_reserved}
use Rattle.gated_file.proofs.gated.Gated.reserve.Goals as goal

pub returns-then-is_err-clause-state : goal.returns-then-is_err-clause-state
returns-then-is_err-clause-state g c s has = more_room _ _ c.args.self.now _ c.room-added.ensures.reads refl refl c.reserve-2.ensures.items refl s has

pub returns-clause-state : goal.returns-clause-state
returns-clause-state g c s has = more_room _ _ c.args.self.now _ c.room-added.ensures.reads refl refl c.reserve-2.ensures.items refl s has

pub returns-clause-ready : goal.returns-clause-ready
returns-clause-ready g c =
    let bodies_left : c.in-Some.bodies_left ≡ c.args.self.now.bodies_left + c.args.bodies = search rules in
    let bytes_left : c.in-Some-checked_add.bytes_left ≡ c.args.self.now.bytes_left + c.args.bytes = search rules in
    let syncs_left : c.in-Some-checked_add-2.syncs_left ≡ c.args.self.now.syncs_left + 2 * c.args.bodies = search rules in
    let gates : length c.args.self.now.closed.items + c.in-Some.bodies_left ≤ deque_capacity c.reserve-2.new.self = search rules in
    let buffer : min c.in-Some-checked_add.bytes_left 1048576 + 5 ≤ vec_capacity c.reserve.new.self = search rules in
    let near : (c.args.self.now.end < 2 ^ 59) × (c.in-Some.bodies_left < 2 ^ 59) × (c.in-Some-checked_add.bytes_left < 2 ^ 59) = search rules in
    ready_reserved _ _ c.args.self.now _ c.args.bodies c.args.bytes (record {
      file = refl;
      end = refl;
      closed = c.reserve-2.ensures.items;
      synced = refl;
      bodies_left = bodies_left;
      bytes_left = bytes_left;
      syncs_left = syncs_left;
      gates = gates;
      buffer = buffer;
      near = near;
      reads = c.room-added.ensures.reads;
      added = search rules;
    }) c.requires.ready

use Rattle.std.proofs.Common.{length, map, ap}
use Rattle.wire_defs.specs.Frames.{Reading}
use Rattle.repl_wire.specs.Values.{frame_value}
use Rattle.receiver_server.proofs.Kept.{begins_inbox}
use Rattle.receiver_server.proofs.inbox.Inbox.new.Goals as goal

pub invariant_of-result : goal.invariant_of-result
invariant_of-result c = begins_inbox (map frame_value c.new.result.items) c.new-2.result.rest c.in_ok-from_slice.field-0.items
    (ap (map frame_value) c.new.ensures.items) (ap (λ (r : Reading). r.rest) c.new-2.ensures) (ap length c.in_ok-from_slice.ensures.items)

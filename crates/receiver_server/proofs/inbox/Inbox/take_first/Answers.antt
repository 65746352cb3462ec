use Rattle.std.proofs.Common.{◌≡◌, ◌∷◌, List, map, ap, subst, arith}
use Rattle.wire_defs.specs.Frames as defs
use Rattle.repl_wire.specs.Values.{frame_value}
use Rattle.receiver_server.specs.Incomings.{IsInbox}
use Rattle.receiver_server.proofs.Kept.{taken_first}
use Rattle.receiver_server.proofs.inbox.Inbox.take_first.Goals as goal

pub invariant_of-self-2 : goal.invariant_of-self-2
invariant_of-self-2 c =
    let i = c.self.inside in
    let is : map frame_value i.waiting.items ≡ frame_value c.in_ok-frame.frame ∷ map frame_value c.pop_front.new.self.items = ap (map frame_value) c.in_ok-frame.ensures.items in
    let here = subst (λ (l : List defs.Frame). IsInbox l i.frames.rest i.bad i.fresh i.piece.items i.left) is c.self.invariant in
    taken_first (frame_value c.in_ok-frame.frame) (map frame_value c.pop_front.new.self.items) i.frames.rest i.bad i.fresh i.piece.items i.left c.saturating_sub-self-inside.result here
    (omega (arith, c.saturating_sub-self-inside.ensures, c.frame_length-length.ensures))

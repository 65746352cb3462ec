use Rattle.std.proofs.Common.{◌≡◌, false, map, ap, subst, ◌∙◌}
use Rattle.wire_defs.specs.Frames.{BeginsFrame}
use Rattle.repl_wire.specs.Values.{frame_value}
use Rattle.receiver_server.specs.Incomings.{Incoming}
use Rattle.receiver_server.proofs.Kept.{begins_left}
use Rattle.receiver_server.proofs.inbox.Inbox.is_bad.Goals as goal

pub returns-clause-rest : goal.returns-clause-rest
returns-clause-rest c = λ good.
    let i = c.self.inside in
    let fine : i.bad ≡ false = ap (λ (x : Incoming). x.bad) c.self.view_is ∙ good in
    subst (λ (x : Incoming). BeginsFrame x.reading.rest) c.self.view_is (begins_left i.bad (map frame_value i.waiting.items) i.frames.rest i.fresh i.left fine c.self.invariant.left)

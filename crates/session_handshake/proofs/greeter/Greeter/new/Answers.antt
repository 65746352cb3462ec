use Rattle.std.proofs.Common.{refl, sym, subst}
use Rattle.wire_defs.specs.Frames.{Reading}
use Rattle.receiver_server.proofs.Steps.{begins_empty}
use Rattle.session_handshake.specs.Answering.{Awaits}
use Rattle.session_handshake.proofs.greeter.Greeter.new.Goals as goal

pub returns-clause-awaits : goal.returns-clause-awaits
returns-clause-awaits c = subst (λ (r : Reading). Awaits r 0) (sym c.new.ensures) (record { at = refl; begins = begins_empty; counted = refl })

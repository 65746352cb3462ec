use Rattle.std.proofs.Common.{◌+◌}
use Rattle.session_handshake.specs.Answering.{Awaits, left_to_ask}
use Rattle.session_handshake.specs.Exchanges.{views, HaveLines}
use Rattle.session_handshake.proofs.Turns.{IsAsking}
use Rattle.session_handshake.proofs.asking.ask.Given as goal

abbrev pub invariant-loop-answer : goal.invariant-loop-answer
invariant-loop-answer g l =
    HaveLines g.L.Tx.LinkTx.line g.L.Rx.LinkRx.line l.ends
    × IsAsking (g.L.Linker.links l.links).told (g.L.Linker.links l.links).shown l.fn.hello (views g.L.Tx.LinkTx.sending g.L.Rx.LinkRx.receiving l.fn.ends) (views g.L.Tx.LinkTx.sending g.L.Rx.LinkRx.receiving l.ends) l.outgoing l.greeter.frames.rest
    × Awaits l.greeter.frames l.greeter.count

abbrev pub decreases-loop-answer : goal.decreases-loop-answer
decreases-loop-answer g l = left_to_ask (g.L.Linker.links l.links).told l.outgoing l.greeter.frames.rest ((g.L.Tx.LinkTx.sending l.ends.down_tx).patience + (g.L.Rx.LinkRx.receiving l.ends.up_rx).patience)

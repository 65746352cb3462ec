use Rattle.std.proofs.Common.{◌≡◌, ◌+◌, false}
use Rattle.recv_pool.specs.Pools.{put_in, free, SameIn}
use Rattle.session_handshake.specs.Answering.{AwaitsAnswer, left_to_hear}
use Rattle.session_handshake.specs.Exchanges.{views, HaveLines}
use Rattle.session_handshake.proofs.Turns.{IsAnswering}
use Rattle.session_handshake.proofs.hearing.hear.Given as goal

abbrev pub invariant-loop-answer : goal.invariant-loop-answer
invariant-loop-answer g l =
    HaveLines g.L.Tx.LinkTx.line g.L.Rx.LinkRx.line l.ends
    × IsAnswering (g.L.Linker.links l.links).told l.fn.answer (views g.L.Tx.LinkTx.sending g.L.Rx.LinkRx.receiving l.fn.ends) (views g.L.Tx.LinkTx.sending g.L.Rx.LinkRx.receiving l.ends) l.outgoing
    × ((g.L.Rx.LinkRx.receiving l.ends.down_rx).closed ≡ false)
    × AwaitsAnswer l.receiver (g.L.Linker.links l.links).shown (g.L.Rx.LinkRx.receiving l.ends.down_rx).received (put_in l.pool) (free l.pool)
    × SameIn l.fn.pool l.pool × (l.receiver.purpose ≡ l.fn.receiver.purpose) × (l.receiver.heard ≡ l.fn.receiver.heard)

abbrev pub decreases-loop-answer : goal.decreases-loop-answer
decreases-loop-answer g l = left_to_hear (g.L.Linker.links l.links).told l.outgoing l.receiver.incoming ((g.L.Tx.LinkTx.sending l.ends.up_tx).patience + (g.L.Rx.LinkRx.receiving l.ends.down_rx).patience)

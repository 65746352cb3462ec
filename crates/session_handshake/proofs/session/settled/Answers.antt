use Rattle.std.proofs.Common.{◌∙◌}
use Rattle.session_handshake.specs.Exchanges.{views}
use Rattle.session_handshake.proofs.Greets.{given_finished}
use Rattle.session_handshake.proofs.session.settled.Goals as goal

pub settle-requires-clause-one : goal.settle-requires-clause-one
settle-requires-clause-one g c = c.finish.ensures.same.connection ∙ c.requires.open.1.one

pub settle-requires-clause-own_tx : goal.settle-requires-clause-own_tx
settle-requires-clause-own_tx g c = (c.finish.ensures.same.session ∙ c.requires.open.1.own_tx.0, c.requires.open.1.own_tx.1)

pub settle-requires-clause-own_rx : goal.settle-requires-clause-own_rx
settle-requires-clause-own_rx g c = c.requires.open.1.own_rx

pub returns-clause-made : goal.returns-clause-made
returns-clause-made g c = λ from is_open.
    given_finished from (g.L.Linker.links c.args.links.now) (g.L.Linker.links c.settle.new.self) c.args.session (views g.L.Tx.LinkTx.sending g.L.Rx.LinkRx.receiving c.args.greeted.ends) (g.L.Tx.LinkTx.sending c.finish.new.self)
    is_open c.finish.ensures.cuts c.settle.ensures.cuts c.settle.ensures.past

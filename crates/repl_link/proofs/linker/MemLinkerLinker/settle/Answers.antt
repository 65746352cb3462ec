use Rattle.rtrb.specs.Ring.{received, known_items}
use Rattle.repl_link.specs.EndLaws.{all_was_read}
use Rattle.repl_link.proofs.Looks.{carries}
use Rattle.repl_link.proofs.linker.MemLinkerLinker.settle.Goals as goal

pub returns-clause-from_primary : goal.returns-clause-from_primary
returns-clause-from_primary c told =
    let rx = c.args.ends.down_rx in
    carries _ _ _ _ c.beside.ensures.up_tx c.beside.ensures.down_rx (c.beside.ensures.from_primary told)
    (λ closed. all_was_read (received rx.ring) (known_items rx.ring) rx.ended rx.ends (rx.over closed))

pub returns-clause-to_primary : goal.returns-clause-to_primary
returns-clause-to_primary c told =
    let rx = c.args.ends.up_rx in
    carries _ _ _ _ c.beside.ensures.down_tx c.beside.ensures.up_rx (c.beside.ensures.to_primary told)
    (λ closed. all_was_read (received rx.ring) (known_items rx.ring) rx.ended rx.ends (rx.over closed))

use Rattle.rtrb.specs.Ring.{received, known_items}
use Rattle.repl_link.specs.EndLaws.{all_was_read}
use Rattle.repl_link.proofs.mem_rx.MemRxLinkRx.receive.Goals as goal

pub returns-then-self-clause-at_end : goal.returns-then-self-clause-at_end
returns-then-self-clause-at_end c told =
    let all = all_was_read (received c.args.self.now.ring) (known_items c.args.self.now.ring) c.args.self.now.ended c.args.self.now.ends c.if-self.true in
    (all.1, all.0)

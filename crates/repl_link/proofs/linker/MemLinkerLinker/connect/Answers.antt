use Rattle.std.proofs.Common.{◌∙◌, refl, arith, sym, ap, length, rules}
use Rattle.wire_defs.specs.Links.{first_order, later_orders}
use Rattle.repl_link.specs.Items.{bytes_of}
use Rattle.repl_link.proofs.Orders.{orders_of-set_same, orders_of-set_other, orders_of-get_or, first_taken, order_at_first}
use Rattle.repl_link.proofs.linker.MemLinkerLinker.connect.Goals as goal

pub returns-clause-from_primary : goal.returns-clause-from_primary
returns-clause-from_primary c =
    let first = ap first_order (orders_of-get_or c.args.self.now.orders c.args.session c.index-self-session.result (omega arith))
    ∙ (first_taken _ _ c.pop_front-order.result c.pop_front-order.ensures.items c.pop_front-order.ensures.rest).0 in
    record {
      sessions = search rules;
      connections = search rules;
      told = (refl, refl, refl);
      orders = (
        order_at_first _ _ (ap (λ items. length (bytes_of items)) c.in_ok-up_tx.ensures.tx.0) ∙ sym first,
        order_at_first _ _ (ap (λ items. length (bytes_of items)) c.in_ok-up_tx.ensures.rx.0) ∙ sym first,
      );
      cuts = search rules;
      patience = search rules;
      nothing_sent = search rules;
      nothing_received = search rules;
      nothing_answered = search rules;
      nothing_known = search rules;
      all_free = search rules;
    }

pub returns-clause-made : goal.returns-clause-made
returns-clause-made c = record {
  told = refl;
  shown = refl;
  simulated = refl;
  made = refl;
  cuts = λ s. refl;
  used = orders_of-set_same c.args.self.now.orders c.args.session _ (omega arith)
      ∙ sym (ap later_orders (orders_of-get_or c.args.self.now.orders c.args.session c.index-self-session.result (omega arith))
      ∙ (first_taken _ _ c.pop_front-order.result c.pop_front-order.ensures.items c.pop_front-order.ensures.rest).1);
  others = orders_of-set_other c.args.self.now.orders c.args.session _;
  past = refl;
}

use Rattle.std.proofs.Common.{◌∙◌, refl, arith, sym, ap, not, [], ◌∷◌, ◌++◌}
use Rattle.repl_link.proofs.Orders.{orders_of-set_same, orders_of-set_other, orders_of-set_kept, orders_of-get_or, when_refused, when_given}
use Rattle.repl_link.proofs.linker.MemLinkerLinker.cut_after.Goals as goal

pub returns-then-is_err-clause-refused : goal.returns-then-is_err-clause-refused
returns-then-is_err-clause-refused c =
    let before = orders_of-get_or c.args.self.now.orders c.args.session c.index-self-session.result (omega arith) in
    let refused = c.is_err.ensures.negation ∙ ap not c.if-is_err.true in
    let kept = when_refused _ _ _ _ c.push_back.ensures.items refused in
    record {
      told = refl;
      shown = refl;
      simulated = refl;
      made = refl;
      cuts = λ s. refl;
      orders = orders_of-set_kept c.args.self.now.orders c.args.session _ (kept ∙ sym before);
      past = refl;
    }

pub returns-clause-added : goal.returns-clause-added
returns-clause-added c simulated =
    let before = orders_of-get_or c.args.self.now.orders c.args.session c.index-self-session.result (omega arith) in
    let taken = c.is_err.ensures.negation ∙ ap not c.if-is_err.false in
    let added = when_given _ _ _ _ c.push_back.ensures.items taken in
    record {
      told = refl;
      shown = refl;
      simulated = refl;
      made = refl;
      cuts = λ s. refl;
      added = orders_of-set_same c.args.self.now.orders c.args.session _ (omega arith) ∙ added ∙ sym (ap (λ l. l ++ c.args.bytes ∷ []) before);
      others = orders_of-set_other c.args.self.now.orders c.args.session _;
      past = refl;
    }

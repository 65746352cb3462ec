use Rattle.std.proofs.Common.{refl, ap, ◌∙◌, length, ◌+◌, ◌++◌, option_map, [], ◌∷◌}
use Rattle.repl_link.specs.Items.{End, bytes_of, has_end}
use Rattle.repl_link.proofs.ItemLists.{bytes_of-end, has_end-append}
use Rattle.repl_link.proofs.mem_tx.MemTxLinkTx.finish.Goals as goal

pub push_reserved-requires : goal.push_reserved-requires
push_reserved-requires c = (c.args.self.now.room c.if-not-self.true, c.args.self.now.ends ∙ c.if-not-self.true)

pub invariant_of-self-clause-ends : goal.invariant_of-self-clause-ends
invariant_of-self-clause-ends c = ap has_end c.push_reserved.ensures.sent.0 ∙ ap (λ s. has_end (c.args.self.now.ring.end.past ++ s ∷ [])) c.end.ensures ∙ has_end-append c.args.self.now.ring.end.past (End ∷ []) (c.args.self.now.ends ∙ c.if-not-self.true)

pub returns-then-not-self-clause-same : goal.returns-then-not-self-clause-same
returns-then-not-self-clause-same c =
    let sent = ap bytes_of c.push_reserved.ensures.sent.0 ∙ ap (λ s. bytes_of (c.args.self.now.ring.end.past ++ s ∷ [])) c.end.ensures ∙ bytes_of-end c.args.self.now.ring.end.past (c.args.self.now.ends ∙ c.if-not-self.true) in
    record { session = refl; connection = refl; told = refl; order = ap (λ bytes. option_map (λ left. left + length bytes) c.args.self.now.left) sent; places = refl }

pub returns-then-not-self-clause-sent : goal.returns-then-not-self-clause-sent
returns-then-not-self-clause-sent c = ap bytes_of c.push_reserved.ensures.sent.0 ∙ ap (λ s. bytes_of (c.args.self.now.ring.end.past ++ s ∷ [])) c.end.ensures ∙ bytes_of-end c.args.self.now.ring.end.past (c.args.self.now.ends ∙ c.if-not-self.true)

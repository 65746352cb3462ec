use Rattle.std.proofs.Common.{◌≡◌, inl, inr, List, ℕ, sym, subst, ◌∙◌, ◌+◌, arith}
use Rattle.session_turns.specs.Sessions.{HasGiven}
use Rattle.session_turns.proofs.Given.{goes_reigns, given_kept, given_goes, given_made, can_ship, gives_on, gives_later}
use Rattle.session_turns.proofs.machines.ship.Goals as goal
use Rattle.global_defs.proofs.Basics.{ok_of}

pub returns-in-Ok-Over-clause-sends : goal.returns-in-Ok-Over-clause-sends
returns-in-Ok-Over-clause-sends g c = λ told from given.
    let now = c.step.new.entries in
    let before = g.T.LinkTx.sending c.args.tx.now in
    let ready = given_kept from c.args.length (g.E.EntrySource.is_entry c.args.entries.now) (g.E.EntrySource.is_entry now) c.close.new.source before.sent c.step.ensures.kept
    (given_made from c.args.length (g.E.EntrySource.is_entry c.args.entries.now) c.args.source.now c.close.new.source before.sent (c.close.ensures.made from before.sent) given) in
    subst (λ (l : List ℕ). HasGiven (g.E.EntrySource.is_entry now) from c.args.length c.step.new.self l) (sym c.finish.ensures.sent)
    (given_goes from c.args.length (g.E.EntrySource.is_entry now) c.close.new.source c.step.new.self before.sent (g.T.LinkTx.sending c.step.new.tx).sent (c.step.ensures.ships told) ready)

pub returns-in-Ok-Moved-clause-sends : goal.returns-in-Ok-Moved-clause-sends
returns-in-Ok-Moved-clause-sends g c = λ told from given.
    let now = c.step.new.entries in
    let before = g.T.LinkTx.sending c.args.tx.now in
    let ready = given_kept from c.args.length (g.E.EntrySource.is_entry c.args.entries.now) (g.E.EntrySource.is_entry now) c.close.new.source before.sent c.step.ensures.kept
    (given_made from c.args.length (g.E.EntrySource.is_entry c.args.entries.now) c.args.source.now c.close.new.source before.sent (c.close.ensures.made from before.sent) given) in
    given_goes from c.args.length (g.E.EntrySource.is_entry now) c.close.new.source c.step.new.self before.sent (g.T.LinkTx.sending c.step.new.tx).sent (c.step.ensures.ships told) ready

pub returns-in-Ok-Waits-clause-sends : goal.returns-in-Ok-Waits-clause-sends
returns-in-Ok-Waits-clause-sends g c = λ told from given.
    let now = c.step.new.entries in
    let before = g.T.LinkTx.sending c.args.tx.now in
    let ready = given_kept from c.args.length (g.E.EntrySource.is_entry c.args.entries.now) (g.E.EntrySource.is_entry now) c.close.new.source before.sent c.step.ensures.kept
    (given_made from c.args.length (g.E.EntrySource.is_entry c.args.entries.now) c.args.source.now c.close.new.source before.sent (c.close.ensures.made from before.sent) given) in
    given_goes from c.args.length (g.E.EntrySource.is_entry now) c.close.new.source c.step.new.self before.sent (g.T.LinkTx.sending c.step.new.tx).sent (c.step.ensures.ships told) ready

pub returns-in-Err-clause-sends : goal.returns-in-Err-clause-sends
returns-in-Err-clause-sends g c = λ told from given.
    let now = c.step.new.entries in
    let before = g.T.LinkTx.sending c.args.tx.now in
    let ready = given_kept from c.args.length (g.E.EntrySource.is_entry c.args.entries.now) (g.E.EntrySource.is_entry now) c.close.new.source before.sent c.step.ensures.kept
    (given_made from c.args.length (g.E.EntrySource.is_entry c.args.entries.now) c.args.source.now c.close.new.source before.sent (c.close.ensures.made from before.sent) given) in
    given_goes from c.args.length (g.E.EntrySource.is_entry now) c.close.new.source c.step.new.self before.sent (g.T.LinkTx.sending c.step.new.tx).sent (c.step.ensures.ships told) ready

pub returns-in-Ok-Over-clause-moves : goal.returns-in-Ok-Over-clause-moves
returns-in-Ok-Over-clause-moves g c = λ told open_ free can. inr (open_, c.finish.ensures.finished (c.step.ensures.same.told ∙ told))

pub returns-in-Ok-Moved-clause-moves : goal.returns-in-Ok-Moved-clause-moves
returns-in-Ok-Moved-clause-moves g c = λ told open_ free can. inl (c.in-Ok-Moved.ensures.moved told c.in-Ok-Moved.field-0-is)

pub returns-in-Ok-Waits-clause-moves : goal.returns-in-Ok-Waits-clause-moves
returns-in-Ok-Waits-clause-moves g c = λ told open_ free can.
    let closed = λ (e : c.args.source.now.next ≡ c.args.length + 1). ok_of c.close.result _ (sym c.if-is_err.ensures.value) (c.close.ensures.closed e) in
    elim (can_ship (g.E.EntrySource.ready c.args.entries.now) c.args.length c.args.source.now c.close.new.source can c.close.ensures.next closed) [
      | inl s ↦ let moved = c.in-Ok-Waits.ensures.moves told free s in absurd (cc)
      | inr over ↦ let ends = c.in-Ok-Waits.ensures.ends over.0 over.1 in absurd (cc)
    ]

pub returns-in-Ok-Over-clause-gives : goal.returns-in-Ok-Over-clause-gives
returns-in-Ok-Over-clause-gives g c = λ told can.
    let now = c.step.new.entries in
    let closed = λ (e : c.args.source.now.next ≡ c.args.length + 1). ok_of c.close.result _ (sym c.if-is_err.ensures.value) (c.close.ensures.closed e) in
    gives_on (g.E.EntrySource.ready c.args.entries.now) (g.E.EntrySource.ready now) (g.E.EntrySource.is_entry now) c.args.length c.args.source.now c.close.new.source c.step.new.self
    (g.T.LinkTx.sending c.args.tx.now).sent (g.T.LinkTx.sending c.step.new.tx).sent c.step.ensures.still c.close.ensures.next closed (c.step.ensures.ships told) can

pub returns-in-Ok-Moved-clause-gives : goal.returns-in-Ok-Moved-clause-gives
returns-in-Ok-Moved-clause-gives g c = λ told can.
    let now = c.step.new.entries in
    let closed = λ (e : c.args.source.now.next ≡ c.args.length + 1). ok_of c.close.result _ (sym c.if-is_err.ensures.value) (c.close.ensures.closed e) in
    gives_on (g.E.EntrySource.ready c.args.entries.now) (g.E.EntrySource.ready now) (g.E.EntrySource.is_entry now) c.args.length c.args.source.now c.close.new.source c.step.new.self
    (g.T.LinkTx.sending c.args.tx.now).sent (g.T.LinkTx.sending c.step.new.tx).sent c.step.ensures.still c.close.ensures.next closed (c.step.ensures.ships told) can

pub returns-in-Ok-Waits-clause-gives : goal.returns-in-Ok-Waits-clause-gives
returns-in-Ok-Waits-clause-gives g c = λ told can.
    let now = c.step.new.entries in
    let closed = λ (e : c.args.source.now.next ≡ c.args.length + 1). ok_of c.close.result _ (sym c.if-is_err.ensures.value) (c.close.ensures.closed e) in
    gives_on (g.E.EntrySource.ready c.args.entries.now) (g.E.EntrySource.ready now) (g.E.EntrySource.is_entry now) c.args.length c.args.source.now c.close.new.source c.step.new.self
    (g.T.LinkTx.sending c.args.tx.now).sent (g.T.LinkTx.sending c.step.new.tx).sent c.step.ensures.still c.close.ensures.next closed (c.step.ensures.ships told) can

pub returns-in-Err-clause-gives : goal.returns-in-Err-clause-gives
returns-in-Err-clause-gives g c = λ told can.
    let now = c.step.new.entries in
    let closed = λ (e : c.args.source.now.next ≡ c.args.length + 1). ok_of c.close.result _ (sym c.if-is_err.ensures.value) (c.close.ensures.closed e) in
    gives_on (g.E.EntrySource.ready c.args.entries.now) (g.E.EntrySource.ready now) (g.E.EntrySource.is_entry now) c.args.length c.args.source.now c.close.new.source c.step.new.self
    (g.T.LinkTx.sending c.args.tx.now).sent (g.T.LinkTx.sending c.step.new.tx).sent c.step.ensures.still c.close.ensures.next closed (c.step.ensures.ships told) can

pub returns-then-is_err-clause-gives : goal.returns-then-is_err-clause-gives
returns-then-is_err-clause-gives g c = λ told can.
    let same = c.close.ensures.next in
    let within = can.within in
    gives_later (g.E.EntrySource.ready c.args.entries.now) (g.E.EntrySource.ready c.args.entries.now) c.args.length c.args.source.now c.close.new.source (λ n r. r) can (omega (arith, same)) (omega (arith, same, within))

pub returns-in-Ok-Over-clause-reigns : goal.returns-in-Ok-Over-clause-reigns
returns-in-Ok-Over-clause-reigns g c = λ told.
    goes_reigns (g.E.EntrySource.is_entry c.step.new.entries) c.close.new.source c.step.new.self (g.T.LinkTx.sending c.args.tx.now).sent (g.T.LinkTx.sending c.step.new.tx).sent (c.step.ensures.ships told) ∙ c.close.ensures.reigns

pub returns-in-Ok-Moved-clause-reigns : goal.returns-in-Ok-Moved-clause-reigns
returns-in-Ok-Moved-clause-reigns g c = λ told.
    goes_reigns (g.E.EntrySource.is_entry c.step.new.entries) c.close.new.source c.step.new.self (g.T.LinkTx.sending c.args.tx.now).sent (g.T.LinkTx.sending c.step.new.tx).sent (c.step.ensures.ships told) ∙ c.close.ensures.reigns

pub returns-in-Ok-Waits-clause-reigns : goal.returns-in-Ok-Waits-clause-reigns
returns-in-Ok-Waits-clause-reigns g c = λ told.
    goes_reigns (g.E.EntrySource.is_entry c.step.new.entries) c.close.new.source c.step.new.self (g.T.LinkTx.sending c.args.tx.now).sent (g.T.LinkTx.sending c.step.new.tx).sent (c.step.ensures.ships told) ∙ c.close.ensures.reigns

pub returns-in-Err-clause-reigns : goal.returns-in-Err-clause-reigns
returns-in-Err-clause-reigns g c = λ told.
    goes_reigns (g.E.EntrySource.is_entry c.step.new.entries) c.close.new.source c.step.new.self (g.T.LinkTx.sending c.args.tx.now).sent (g.T.LinkTx.sending c.step.new.tx).sent (c.step.ensures.ships told) ∙ c.close.ensures.reigns

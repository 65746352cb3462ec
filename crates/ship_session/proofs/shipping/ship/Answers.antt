use Rattle.std.proofs.Common.{◌≡◌, ◌+◌, List, ℕ, [], Ok, Option, sym, ap, subst, ◌∙◌}
use Rattle.global_defs.specs.Prefix as prefix
use Rattle.gvn_model.specs.Entries.{history_value}
use Rattle.recv_pool.specs.Pools.{put_in, taken}
use Rattle.ship_defs.specs.Hearing.{unbegun}
use Rattle.source_server.specs.Sources.{Shipping, resumed_at}
use Rattle.receiver_server.specs.Listenings.{IsHearing}
use Rattle.update_process.specs.Copies.{history_of, next_of}
use Rattle.session_turns.specs.Sessions.{HasGiven}
use Rattle.ship_session.specs.declared.end.SessionEnd.{SessionEnd}
use Rattle.ship_session.specs.Ends.{ShipsTo}
use Rattle.ship_session.proofs.Behind.{grown_first, given_first, comes_behind}
use Rattle.ship_session.proofs.Grown.{grown_of, ships_to}
use Rattle.ship_session.proofs.Order.{in_all, all_at, joined_at, joined_all, joined_none}
use Rattle.ship_session.proofs.shipping.ship.Goals as goal

pub returns-in-Err-clause-grown : goal.returns-in-Err-clause-grown
returns-in-Err-clause-grown g c = λ shown.
    let begun = g.S.EntrySink.copy c.args.site.now in
    let now = (g.L.Rx.LinkRx.receiving c.beside.new.ends.down_rx).received in
    let h = c.requires.hears shown in
    grown_first begun c.args.receiver now h.0 (c.requires.fit shown) c.requires.ships (subst (λ (l : List ℕ). IsHearing (unbegun (history_of begun)) c.args.receiver l [] h.0) (sym c.beside.ensures.down_rx.received) h.1)

pub returns-in-Err-run-clause-grown : goal.returns-in-Err-run-clause-grown
returns-in-Err-run-clause-grown g c = λ shown.
    let begun = g.S.EntrySink.copy c.args.site.now in
    let now = g.S.EntrySink.copy c.run.new.site in
    let m = c.in-Ok.machines in
    let n = c.run.new.self in
    let rx = g.L.Rx.LinkRx.receiving in
    let open_ = c.requires.open.2 in
    let e = c.run.ensures in
    let received = (rx c.run.new.ends.down_rx).received in
    let came = comes_behind g.row.S-Error.Denot begun now c.args.receiver m.receiver n.receiver (rx c.args.ends.now.down_rx).received (rx c.beside.new.ends.down_rx).received received (put_in m.into) (taken m.out) (put_in n.into) (taken n.out) c.run.result
    (c.requires.fit shown) c.requires.ships c.in-Ok.ensures.receiver (c.requires.hears shown) c.beside.ensures.down_rx.received c.in-Ok.ensures.empty.1 c.in-Ok.ensures.empty.0.empty e.purpose
    (e.comes (c.beside.ensures.down_rx.same.shown ∙ (open_.shown.1 ∙ (sym open_.made.shown ∙ shown)))) in
    grown_of begun now n.receiver received (put_in n.into) (taken n.out) came.1 c.run.result came.0

pub returns-clause-grown : goal.returns-clause-grown
returns-clause-grown g c = λ shown.
    let begun = g.S.EntrySink.copy c.args.site.now in
    let now = g.S.EntrySink.copy c.run.new.site in
    let m = c.in-Ok.machines in
    let n = c.run.new.self in
    let rx = g.L.Rx.LinkRx.receiving in
    let open_ = c.requires.open.2 in
    let e = c.run.ensures in
    let received = (rx c.run.new.ends.down_rx).received in
    let came = comes_behind g.row.S-Error.Denot begun now c.args.receiver m.receiver n.receiver (rx c.args.ends.now.down_rx).received (rx c.beside.new.ends.down_rx).received received (put_in m.into) (taken m.out) (put_in n.into) (taken n.out) c.run.result
    (c.requires.fit shown) c.requires.ships c.in-Ok.ensures.receiver (c.requires.hears shown) c.beside.ensures.down_rx.received c.in-Ok.ensures.empty.1 c.in-Ok.ensures.empty.0.empty e.purpose
    (e.comes (c.beside.ensures.down_rx.same.shown ∙ (open_.shown.1 ∙ (sym open_.made.shown ∙ shown)))) in
    grown_of begun now n.receiver received (put_in n.into) (taken n.out) came.1 c.run.result came.0

pub returns-clause-ships : goal.returns-clause-ships
returns-clause-ships g c = λ shown.
    let begun = g.S.EntrySink.copy c.args.site.now in
    let now = g.S.EntrySink.copy c.run.new.site in
    let m = c.in-Ok.machines in
    let n = c.run.new.self in
    let rx = g.L.Rx.LinkRx.receiving in
    let open_ = c.requires.open.2 in
    let e = c.in-Ok-run.ensures in
    let received = (rx c.run.new.ends.down_rx).received in
    let closed = (rx c.run.new.ends.down_rx).closed in
    let came = comes_behind g.row.S-Error.Denot begun now c.args.receiver m.receiver n.receiver (rx c.args.ends.now.down_rx).received (rx c.beside.new.ends.down_rx).received received (put_in m.into) (taken m.out) (put_in n.into) (taken n.out) (Ok c.in-Ok-run.turned)
    (c.requires.fit shown) c.requires.ships c.in-Ok.ensures.receiver (c.requires.hears shown) c.beside.ensures.down_rx.received c.in-Ok.ensures.empty.1 c.in-Ok.ensures.empty.0.empty e.purpose
    (e.comes (c.beside.ensures.down_rx.same.shown ∙ (open_.shown.1 ∙ (sym open_.made.shown ∙ shown)))) in
    rw c.ended.ensures (ships_to begun now n.receiver received (put_in n.into) (taken n.out) closed came.1 g.row.S-Error.Denot c.in-Ok-run.turned _ _ came.0 e.over e.short)

pub returns-in-Err-run-clause-in_order : goal.returns-in-Err-run-clause-in_order
returns-in-Err-run-clause-in_order g c = λ told all gives p.
    let begun = g.S.EntrySink.copy c.args.site.now in
    let now = g.S.EntrySink.copy c.run.new.site in
    let theirs = history_value c.args.theirs.now in
    let m = c.in-Ok.machines in
    let n = c.run.new.self in
    let tx = g.L.Tx.LinkTx.sending in
    let rx = g.L.Rx.LinkRx.receiving in
    let open_ = c.requires.open.2 in
    let e = c.run.ensures in
    let shown = g.met.L.Linker.lawful c.args.links.now told in
    let to = rx c.run.new.ends.down_rx in
    let tells = c.beside.ensures.up_tx.same.told ∙ (open_.told_tx.0 ∙ (sym open_.made.told ∙ told)) in
    let source : m.source ≡ resumed_at theirs.reigns (next_of begun) = c.in-Ok.ensures.source ∙ ap (λ (h : prefix.History). resumed_at theirs.reigns (h.length + 1)) c.history.ensures.is in
    let reigns = e.reigns tells ∙ ap (λ (s : Shipping). s.reigns) source in
    let sent = (tx c.beside.new.ends.up_tx).sent in
    let first = given_first (g.E.EntrySource.is_entry c.args.entries.now) theirs.reigns (next_of begun) theirs.length sent (c.beside.ensures.up_tx.sent ∙ c.requires.sent told) in
    let given = e.sends tells (next_of begun) (subst (λ (s : Shipping). HasGiven (g.E.EntrySource.is_entry c.args.entries.now) (next_of begun) theirs.length s sent) (sym source) first) in
    let came = comes_behind g.row.S-Error.Denot begun now c.args.receiver m.receiver n.receiver (rx c.args.ends.now.down_rx).received (rx c.beside.new.ends.down_rx).received to.received (put_in m.into) (taken m.out) (put_in n.into) (taken n.out) c.run.result
    (c.requires.fit shown) c.requires.ships c.in-Ok.ensures.receiver (c.requires.hears shown) c.beside.ensures.down_rx.received c.in-Ok.ensures.empty.1 c.in-Ok.ensures.empty.0.empty e.purpose
    (e.comes (c.beside.ensures.down_rx.same.shown ∙ (open_.shown.1 ∙ (sym open_.made.shown ∙ shown)))) in
    in_all (g.E.EntrySource.is_entry c.run.new.entries) theirs all begun now n.source (tx c.run.new.ends.up_tx).sent to.received to.unread gives p reigns given (e.carries told).unread
    (grown_of begun now n.receiver to.received (put_in n.into) (taken n.out) came.1 c.run.result came.0)

pub returns-clause-in_order : goal.returns-clause-in_order
returns-clause-in_order g c = λ told all gives p.
    let begun = g.S.EntrySink.copy c.args.site.now in
    let now = g.S.EntrySink.copy c.run.new.site in
    let theirs = history_value c.args.theirs.now in
    let m = c.in-Ok.machines in
    let n = c.run.new.self in
    let tx = g.L.Tx.LinkTx.sending in
    let rx = g.L.Rx.LinkRx.receiving in
    let open_ = c.requires.open.2 in
    let e = c.run.ensures in
    let shown = g.met.L.Linker.lawful c.args.links.now told in
    let to = rx c.run.new.ends.down_rx in
    let tells = c.beside.ensures.up_tx.same.told ∙ (open_.told_tx.0 ∙ (sym open_.made.told ∙ told)) in
    let source : m.source ≡ resumed_at theirs.reigns (next_of begun) = c.in-Ok.ensures.source ∙ ap (λ (h : prefix.History). resumed_at theirs.reigns (h.length + 1)) c.history.ensures.is in
    let reigns = e.reigns tells ∙ ap (λ (s : Shipping). s.reigns) source in
    let sent = (tx c.beside.new.ends.up_tx).sent in
    let first = given_first (g.E.EntrySource.is_entry c.args.entries.now) theirs.reigns (next_of begun) theirs.length sent (c.beside.ensures.up_tx.sent ∙ c.requires.sent told) in
    let given = e.sends tells (next_of begun) (subst (λ (s : Shipping). HasGiven (g.E.EntrySource.is_entry c.args.entries.now) (next_of begun) theirs.length s sent) (sym source) first) in
    let came = comes_behind g.row.S-Error.Denot begun now c.args.receiver m.receiver n.receiver (rx c.args.ends.now.down_rx).received (rx c.beside.new.ends.down_rx).received to.received (put_in m.into) (taken m.out) (put_in n.into) (taken n.out) c.run.result
    (c.requires.fit shown) c.requires.ships c.in-Ok.ensures.receiver (c.requires.hears shown) c.beside.ensures.down_rx.received c.in-Ok.ensures.empty.1 c.in-Ok.ensures.empty.0.empty e.purpose
    (e.comes (c.beside.ensures.down_rx.same.shown ∙ (open_.shown.1 ∙ (sym open_.made.shown ∙ shown)))) in
    in_all (g.E.EntrySource.is_entry c.run.new.entries) theirs all begun now n.source (tx c.run.new.ends.up_tx).sent to.received to.unread gives p reigns given (e.carries told).unread
    (grown_of begun now n.receiver to.received (put_in n.into) (taken n.out) came.1 c.run.result came.0)

pub returns-clause-all : goal.returns-clause-all
returns-clause-all g c = λ told all gives p k at.
    let begun = g.S.EntrySink.copy c.args.site.now in
    let now = g.S.EntrySink.copy c.run.new.site in
    let theirs = history_value c.args.theirs.now in
    let m = c.in-Ok.machines in
    let n = c.run.new.self in
    let tx = g.L.Tx.LinkTx.sending in
    let rx = g.L.Rx.LinkRx.receiving in
    let open_ = c.requires.open.2 in
    let e = c.in-Ok-run.ensures in
    let shown = g.met.L.Linker.lawful c.args.links.now told in
    let to = rx c.run.new.ends.down_rx in
    let tells = c.beside.ensures.up_tx.same.told ∙ (open_.told_tx.0 ∙ (sym open_.made.told ∙ told)) in
    let source : m.source ≡ resumed_at theirs.reigns (next_of begun) = c.in-Ok.ensures.source ∙ ap (λ (h : prefix.History). resumed_at theirs.reigns (h.length + 1)) c.history.ensures.is in
    let reigns = e.reigns tells ∙ ap (λ (s : Shipping). s.reigns) source in
    let sent = (tx c.beside.new.ends.up_tx).sent in
    let first = given_first (g.E.EntrySource.is_entry c.args.entries.now) theirs.reigns (next_of begun) theirs.length sent (c.beside.ensures.up_tx.sent ∙ c.requires.sent told) in
    let given = e.sends tells (next_of begun) (subst (λ (s : Shipping). HasGiven (g.E.EntrySource.is_entry c.args.entries.now) (next_of begun) theirs.length s sent) (sym source) first) in
    let came = comes_behind g.row.S-Error.Denot begun now c.args.receiver m.receiver n.receiver (rx c.args.ends.now.down_rx).received (rx c.beside.new.ends.down_rx).received to.received (put_in m.into) (taken m.out) (put_in n.into) (taken n.out) (Ok c.in-Ok-run.turned)
    (c.requires.fit shown) c.requires.ships c.in-Ok.ensures.receiver (c.requires.hears shown) c.beside.ensures.down_rx.received c.in-Ok.ensures.empty.1 c.in-Ok.ensures.empty.0.empty e.purpose
    (e.comes (c.beside.ensures.down_rx.same.shown ∙ (open_.shown.1 ∙ (sym open_.made.shown ∙ shown)))) in
    let ships = ships_to begun now n.receiver to.received (put_in n.into) (taken n.out) to.closed came.1 g.row.S-Error.Denot c.in-Ok-run.turned _ _ came.0 e.over e.short in
    all_at (g.E.EntrySource.is_entry c.run.new.entries) theirs all begun now n.source (tx c.run.new.ends.up_tx).sent to.received to.unread gives p reigns given (e.carries told).unread
    (subst (λ (o : Option (SessionEnd _)). ShipsTo {F = g.row.S-Error.Denot} (Ok o) begun now to.received to.closed) (sym c.ended.ensures ∙ at) ships)

pub returns-in-Err-run-clause-joined : goal.returns-in-Err-run-clause-joined
returns-in-Err-run-clause-joined g c = λ told all gives p.
    let begun = g.S.EntrySink.copy c.args.site.now in
    let now = g.S.EntrySink.copy c.run.new.site in
    let theirs = history_value c.args.theirs.now in
    let m = c.in-Ok.machines in
    let n = c.run.new.self in
    let tx = g.L.Tx.LinkTx.sending in
    let rx = g.L.Rx.LinkRx.receiving in
    let open_ = c.requires.open.2 in
    let e = c.run.ensures in
    let shown = g.met.L.Linker.lawful c.args.links.now told in
    let to = rx c.run.new.ends.down_rx in
    let tells = c.beside.ensures.up_tx.same.told ∙ (open_.told_tx.0 ∙ (sym open_.made.told ∙ told)) in
    let source : m.source ≡ resumed_at theirs.reigns (next_of begun) = c.in-Ok.ensures.source ∙ ap (λ (h : prefix.History). resumed_at theirs.reigns (h.length + 1)) c.history.ensures.is in
    let reigns = e.reigns tells ∙ ap (λ (s : Shipping). s.reigns) source in
    let sent = (tx c.beside.new.ends.up_tx).sent in
    let first = given_first (g.E.EntrySource.is_entry c.args.entries.now) theirs.reigns (next_of begun) theirs.length sent (c.beside.ensures.up_tx.sent ∙ c.requires.sent told) in
    let given = e.sends tells (next_of begun) (subst (λ (s : Shipping). HasGiven (g.E.EntrySource.is_entry c.args.entries.now) (next_of begun) theirs.length s sent) (sym source) first) in
    let came = comes_behind g.row.S-Error.Denot begun now c.args.receiver m.receiver n.receiver (rx c.args.ends.now.down_rx).received (rx c.beside.new.ends.down_rx).received to.received (put_in m.into) (taken m.out) (put_in n.into) (taken n.out) c.run.result
    (c.requires.fit shown) c.requires.ships c.in-Ok.ensures.receiver (c.requires.hears shown) c.beside.ensures.down_rx.received c.in-Ok.ensures.empty.1 c.in-Ok.ensures.empty.0.empty e.purpose
    (e.comes (c.beside.ensures.down_rx.same.shown ∙ (open_.shown.1 ∙ (sym open_.made.shown ∙ shown)))) in
    joined_at (g.E.EntrySource.is_entry c.run.new.entries) theirs all begun now n.source (tx c.run.new.ends.up_tx).sent to.received to.unread gives c.requires.rising p reigns given (e.carries told).unread
    (grown_of begun now n.receiver to.received (put_in n.into) (taken n.out) came.1 c.run.result came.0)

pub returns-clause-joined : goal.returns-clause-joined
returns-clause-joined g c = λ told all gives p.
    let begun = g.S.EntrySink.copy c.args.site.now in
    let now = g.S.EntrySink.copy c.run.new.site in
    let theirs = history_value c.args.theirs.now in
    let m = c.in-Ok.machines in
    let n = c.run.new.self in
    let tx = g.L.Tx.LinkTx.sending in
    let rx = g.L.Rx.LinkRx.receiving in
    let open_ = c.requires.open.2 in
    let e = c.run.ensures in
    let shown = g.met.L.Linker.lawful c.args.links.now told in
    let to = rx c.run.new.ends.down_rx in
    let tells = c.beside.ensures.up_tx.same.told ∙ (open_.told_tx.0 ∙ (sym open_.made.told ∙ told)) in
    let source : m.source ≡ resumed_at theirs.reigns (next_of begun) = c.in-Ok.ensures.source ∙ ap (λ (h : prefix.History). resumed_at theirs.reigns (h.length + 1)) c.history.ensures.is in
    let reigns = e.reigns tells ∙ ap (λ (s : Shipping). s.reigns) source in
    let sent = (tx c.beside.new.ends.up_tx).sent in
    let first = given_first (g.E.EntrySource.is_entry c.args.entries.now) theirs.reigns (next_of begun) theirs.length sent (c.beside.ensures.up_tx.sent ∙ c.requires.sent told) in
    let given = e.sends tells (next_of begun) (subst (λ (s : Shipping). HasGiven (g.E.EntrySource.is_entry c.args.entries.now) (next_of begun) theirs.length s sent) (sym source) first) in
    let came = comes_behind g.row.S-Error.Denot begun now c.args.receiver m.receiver n.receiver (rx c.args.ends.now.down_rx).received (rx c.beside.new.ends.down_rx).received to.received (put_in m.into) (taken m.out) (put_in n.into) (taken n.out) c.run.result
    (c.requires.fit shown) c.requires.ships c.in-Ok.ensures.receiver (c.requires.hears shown) c.beside.ensures.down_rx.received c.in-Ok.ensures.empty.1 c.in-Ok.ensures.empty.0.empty e.purpose
    (e.comes (c.beside.ensures.down_rx.same.shown ∙ (open_.shown.1 ∙ (sym open_.made.shown ∙ shown)))) in
    joined_at (g.E.EntrySource.is_entry c.run.new.entries) theirs all begun now n.source (tx c.run.new.ends.up_tx).sent to.received to.unread gives c.requires.rising p reigns given (e.carries told).unread
    (grown_of begun now n.receiver to.received (put_in n.into) (taken n.out) came.1 c.run.result came.0)

pub returns-clause-joined_all : goal.returns-clause-joined_all
returns-clause-joined_all g c = λ told all gives p k at.
    let begun = g.S.EntrySink.copy c.args.site.now in
    let now = g.S.EntrySink.copy c.run.new.site in
    let theirs = history_value c.args.theirs.now in
    let m = c.in-Ok.machines in
    let n = c.run.new.self in
    let tx = g.L.Tx.LinkTx.sending in
    let rx = g.L.Rx.LinkRx.receiving in
    let open_ = c.requires.open.2 in
    let e = c.in-Ok-run.ensures in
    let shown = g.met.L.Linker.lawful c.args.links.now told in
    let to = rx c.run.new.ends.down_rx in
    let tells = c.beside.ensures.up_tx.same.told ∙ (open_.told_tx.0 ∙ (sym open_.made.told ∙ told)) in
    let source : m.source ≡ resumed_at theirs.reigns (next_of begun) = c.in-Ok.ensures.source ∙ ap (λ (h : prefix.History). resumed_at theirs.reigns (h.length + 1)) c.history.ensures.is in
    let reigns = e.reigns tells ∙ ap (λ (s : Shipping). s.reigns) source in
    let sent = (tx c.beside.new.ends.up_tx).sent in
    let first = given_first (g.E.EntrySource.is_entry c.args.entries.now) theirs.reigns (next_of begun) theirs.length sent (c.beside.ensures.up_tx.sent ∙ c.requires.sent told) in
    let given = e.sends tells (next_of begun) (subst (λ (s : Shipping). HasGiven (g.E.EntrySource.is_entry c.args.entries.now) (next_of begun) theirs.length s sent) (sym source) first) in
    let came = comes_behind g.row.S-Error.Denot begun now c.args.receiver m.receiver n.receiver (rx c.args.ends.now.down_rx).received (rx c.beside.new.ends.down_rx).received to.received (put_in m.into) (taken m.out) (put_in n.into) (taken n.out) (Ok c.in-Ok-run.turned)
    (c.requires.fit shown) c.requires.ships c.in-Ok.ensures.receiver (c.requires.hears shown) c.beside.ensures.down_rx.received c.in-Ok.ensures.empty.1 c.in-Ok.ensures.empty.0.empty e.purpose
    (e.comes (c.beside.ensures.down_rx.same.shown ∙ (open_.shown.1 ∙ (sym open_.made.shown ∙ shown)))) in
    let grown_came = comes_behind g.row.S-Error.Denot begun now c.args.receiver m.receiver n.receiver (rx c.args.ends.now.down_rx).received (rx c.beside.new.ends.down_rx).received to.received (put_in m.into) (taken m.out) (put_in n.into) (taken n.out) c.run.result
    (c.requires.fit shown) c.requires.ships c.in-Ok.ensures.receiver (c.requires.hears shown) c.beside.ensures.down_rx.received c.in-Ok.ensures.empty.1 c.in-Ok.ensures.empty.0.empty e.purpose
    (c.run.ensures.comes (c.beside.ensures.down_rx.same.shown ∙ (open_.shown.1 ∙ (sym open_.made.shown ∙ shown)))) in
    let ships = ships_to begun now n.receiver to.received (put_in n.into) (taken n.out) to.closed came.1 g.row.S-Error.Denot c.in-Ok-run.turned _ _ came.0 e.over e.short in
    joined_all (g.E.EntrySource.is_entry c.run.new.entries) theirs all begun now n.source (tx c.run.new.ends.up_tx).sent to.received to.unread gives c.requires.rising p reigns given (e.carries told).unread
    (grown_of begun now n.receiver to.received (put_in n.into) (taken n.out) came.1 c.run.result grown_came.0)
    (subst (λ (o : Option (SessionEnd _)). ShipsTo {F = g.row.S-Error.Denot} (Ok o) begun now to.received to.closed) (sym c.ended.ensures ∙ at) ships)

pub returns-in-Err-clause-joined : goal.returns-in-Err-clause-joined
returns-in-Err-clause-joined g c = λ told all gives p. joined_none (history_value c.args.theirs.now) all (g.S.EntrySink.copy c.args.site.now)

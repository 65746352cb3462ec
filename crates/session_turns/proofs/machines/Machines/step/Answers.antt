use Rattle.std.proofs.Common.{◌≡◌, inl, ℕ, Bool, IsTrue, IsSome, true, false, [], refl, sym, ap, ◌∙◌, arith, if◌then◌else◌}
use Rattle.recv_pool.specs.Pools.{put_in, taken}
use Rattle.session_turns.proofs.Heard.{unmoved}
use Rattle.receiver_server.specs.Listenings.{Listening}
use Rattle.wire_defs.specs.Links.{Receiving}
use Rattle.session_turns.specs.Progress.{IsStill, HasSentOn}
use Rattle.session_turns.specs.Turns.{HasFollowed, IsShort, settled_of}
use Rattle.session_turns.proofs.Progress.{empty_same, hears_same, moved_or_sent, never_cut, sent_of, on_weaker, still_sends}
use Rattle.session_turns.proofs.Cuts.{err_weaker, settled_on, settled_over, settled_short, settled_cut, settled_whole, settled_ok, settled_err, settled_comes, sent_cuts, step_cuts, most_one, has_most}
use Rattle.session_turns.proofs.machines.Machines.step.Goals as goal
use Rattle.session_turns.proofs.machines.Machines.step.Goals.{else-self-via-then-self+else-not-has_waiting, else-self-via-else-self}
use Rattle.global_defs.proofs.Basics.{ok_of}

pub returns-then-is_err-clause-comes : goal.returns-then-is_err-clause-comes
returns-then-is_err-clause-comes g c = λ shown begun h.
    let m = c.args.self.now in
    let now = c.send.new.self in
    let same = c.send.ensures.others in
    inl (unmoved begun m.receiver now.receiver (g.R.LinkRx.receiving c.args.rx.now).received (put_in m.into) (put_in now.into) (taken m.out) (taken now.out) (g.S.EntrySink.copy c.args.site.now) same.0 (ap put_in same.1) (ap taken same.2) h, tt)

pub returns-then-not-has_waiting-clause-comes : goal.returns-then-not-has_waiting-clause-comes
returns-then-not-has_waiting-clause-comes g c = λ shown begun h.
    let m = c.args.self.now in
    let now = c.send.new.self in
    let same = c.send.ensures.others in
    inl (unmoved begun m.receiver now.receiver (g.R.LinkRx.receiving c.args.rx.now).received (put_in m.into) (put_in now.into) (taken m.out) (taken now.out) (g.S.EntrySink.copy c.args.site.now) same.0 (ap put_in same.1) (ap taken same.2) h, tt)

pub returns-clause-hears : goal.returns-clause-hears
returns-clause-hears g c = λ pool.
    let m = c.args.self.now in
    let n = c.send.new.self in
    let same = c.send.ensures.others in
    let r = g.R.LinkRx.receiving c.args.rx.now in
    let s = g.R.LinkRx.receiving c.follow-turned.new.rx in
    rw c.settle.ensures (settled_on n.cut c.follow-turned.result _
    (on_weaker c.follow-turned.result _ _ (hears_same m.receiver n.receiver c.follow-turned.new.receiver r s same.0) (c.follow-turned.ensures.hears (empty_same m.into n.into m.out n.out same.1 same.2 pool))))

pub returns-clause-empty : goal.returns-clause-empty
returns-clause-empty g c = λ pool.
    let m = c.args.self.now in
    let n = c.send.new.self in
    let same = c.send.ensures.others in
    rw c.settle.ensures (settled_on n.cut c.follow-turned.result _ (c.follow-turned.ensures.empty (empty_same m.into n.into m.out n.out same.1 same.2 pool)))

pub returns-clause-moves : goal.returns-clause-moves
returns-clause-moves g c = λ can pool.
    let m = c.args.self.now in
    let n = c.send.new.self in
    let same = c.send.ensures.others in
    let x = g.T.LinkTx.sending c.args.tx.now in
    let y = g.T.LinkTx.sending c.send.new.tx in
    let r = g.R.LinkRx.receiving c.args.rx.now in
    let s = g.R.LinkRx.receiving c.follow-turned.new.rx in
    let uncut : IsStill m.receiver c.follow-turned.new.receiver r s → IsTrue n.cut → ⊥ = λ still cut. let none : n.receiver.incoming.waiting ≡ [] = ap (λ (l : Listening). l.incoming.waiting) same.0 ∙ still.none in elim c.else-self.branch [
      | else-self-via-then-self+else-not-has_waiting w ↦ w.if-not-has_waiting.ensures.is.0 refl none
      | else-self-via-else-self w ↦ let no : false ≡ true = sym w.if-self.false ∙ cut in let never : ⊥ = cc in never
    ] in
    rw c.settle.ensures (settled_on n.cut c.follow-turned.result _ (on_weaker c.follow-turned.result _ _ (moved_or_sent m.receiver n.receiver c.follow-turned.new.receiver r s (HasSentOn x y) same.0 (λ still.
    still_sends (IsSome m.failure) (HasSentOn x y) x r can.know can.places can.failed (still.nothing can.told.1) (λ open_ free unfailed.
    sent_of (HasSentOn x y) n.cut (uncut still) (ok_of c.send.result _ (sym c.if-is_err.ensures.value)
    (c.send.ensures.moves can.told.0 open_ free unfailed (never_cut m.cut n.cut c.send.ensures.stays_cut (uncut still)) still.none can.gives)))))
    (c.follow-turned.ensures.hears (empty_same m.into n.into m.out n.out same.1 same.2 pool))))

pub returns-clause-going : goal.returns-clause-going
returns-clause-going g c = rw c.settle.ensures (settled_ok c.send.new.self.cut c.follow-turned.result _ c.follow-turned.ensures.going)

pub returns-clause-over : goal.returns-clause-over
returns-clause-over g c = rw c.settle.ensures (settled_over c.send.new.self.cut c.follow-turned.result _ c.follow-turned.ensures.over)

pub returns-clause-short : goal.returns-clause-short
returns-clause-short g c =
    let f = c.follow-turned.new in
    rw c.settle.ensures (settled_short c.send.new.self.cut c.follow-turned.result (λ (offset : ℕ). IsShort f.receiver offset × IsTrue (g.R.LinkRx.receiving f.rx).closed) c.follow-turned.ensures.short)

pub returns-clause-cut : goal.returns-clause-cut
returns-clause-cut g c = rw c.settle.ensures (settled_cut c.send.new.self.cut c.follow-turned.result _ c.follow-turned.ensures.cut)

pub returns-clause-comes : goal.returns-clause-comes
returns-clause-comes g c = λ shown begun h.
    let m = c.args.self.now in
    let n = c.send.new.self in
    let f = c.follow-turned.new in
    let same = c.send.ensures.others in
    let before = unmoved begun m.receiver n.receiver (g.R.LinkRx.receiving c.args.rx.now).received (put_in m.into) (put_in n.into) (taken m.out) (taken n.out) (g.S.EntrySink.copy c.args.site.now) same.0 (ap put_in same.1) (ap taken same.2) h in
    rw c.settle.ensures (settled_comes begun f.receiver (g.R.LinkRx.receiving f.rx).received (put_in f.into) (taken f.out) (g.S.EntrySink.copy f.site) n.cut c.follow-turned.result (c.follow-turned.ensures.comes shown begun before))

pub returns-then-is_err-clause-once : goal.returns-then-is_err-clause-once
returns-then-is_err-clause-once g c = λ pool has.
    let m = c.args.self.now in
    let n = c.send.new.self in
    let e = c.send.ensures in
    let x = g.T.LinkTx.sending c.args.tx.now in
    let y = g.T.LinkTx.sending c.send.new.tx in
    has_most n.cut y (g.R.LinkRx.receiving c.args.rx.now) (record { sending = sent_cuts m.cut n.cut x.cuts y.cuts has.sending e.cut e.uncut e.stays_cut; receiving = has.receiving })

pub returns-then-not-has_waiting-clause-once : goal.returns-then-not-has_waiting-clause-once
returns-then-not-has_waiting-clause-once g c = λ pool has.
    let m = c.args.self.now in
    let n = c.send.new.self in
    let e = c.send.ensures in
    let x = g.T.LinkTx.sending c.args.tx.now in
    let y = g.T.LinkTx.sending c.send.new.tx in
    has_most n.cut y (g.R.LinkRx.receiving c.args.rx.now) (record { sending = sent_cuts m.cut n.cut x.cuts y.cuts has.sending e.cut e.uncut e.stays_cut; receiving = has.receiving })

pub returns-then-not-has_waiting-clause-cuts : goal.returns-then-not-has_waiting-clause-cuts
returns-then-not-has_waiting-clause-cuts g c = λ pool has.
    let m = c.args.self.now in
    let n = c.send.new.self in
    let e = c.send.ensures in
    let x = g.T.LinkTx.sending c.args.tx.now in
    let y = g.T.LinkTx.sending c.send.new.tx in
    let sent : y.cuts ≡ (if n.cut then 1 else 0) = sent_cuts m.cut n.cut x.cuts y.cuts has.sending e.cut e.uncut e.stays_cut in
    let one : y.cuts ≡ 1 = sent ∙ ap (λ (b : Bool). if b then 1 else 0) c.if-self.true in
    let none : (g.R.LinkRx.receiving c.args.rx.now).cuts ≡ 0 = has.receiving in
    omega (arith, one, none)

pub returns-clause-cuts : goal.returns-clause-cuts
returns-clause-cuts g c = λ pool has.
    let m = c.args.self.now in
    let n = c.send.new.self in
    let e = c.send.ensures in
    let f = c.follow-turned in
    let x = g.T.LinkTx.sending c.args.tx.now in
    let y = g.T.LinkTx.sending c.send.new.tx in
    let r = g.R.LinkRx.receiving c.args.rx.now in
    let s = g.R.LinkRx.receiving f.new.rx in
    let empty = empty_same m.into n.into m.out n.out e.others.1 e.others.2 pool in
    let sent = sent_cuts m.cut n.cut x.cuts y.cuts has.sending e.cut e.uncut e.stays_cut in
    let still : IsTrue n.cut → s.cuts ≡ r.cuts = λ cut. elim c.else-self.branch [
      | else-self-via-then-self+else-not-has_waiting w ↦ ap (λ (z : Receiving). z.cuts) (f.ensures.still (w.if-not-has_waiting.ensures.is.0 refl))
      | else-self-via-else-self w ↦ let no : false ≡ true = sym w.if-self.false ∙ cut in let never : ⊥ = cc in absurd never
    ] in
    rw c.settle.ensures (step_cuts y r s has.receiving n.cut f.result sent still f.ensures.cut (f.ensures.uncut empty))

pub returns-clause-once : goal.returns-clause-once
returns-clause-once g c = λ pool has.
    let m = c.args.self.now in
    let n = c.send.new.self in
    let e = c.send.ensures in
    let f = c.follow-turned in
    let x = g.T.LinkTx.sending c.args.tx.now in
    let y = g.T.LinkTx.sending c.send.new.tx in
    let r = g.R.LinkRx.receiving c.args.rx.now in
    let s = g.R.LinkRx.receiving f.new.rx in
    let empty = empty_same m.into n.into m.out n.out e.others.1 e.others.2 pool in
    let sent = sent_cuts m.cut n.cut x.cuts y.cuts has.sending e.cut e.uncut e.stays_cut in
    let still : IsTrue n.cut → s.cuts ≡ r.cuts = λ cut. elim c.else-self.branch [
      | else-self-via-then-self+else-not-has_waiting w ↦ ap (λ (z : Receiving). z.cuts) (f.ensures.still (w.if-not-has_waiting.ensures.is.0 refl))
      | else-self-via-else-self w ↦ let no : false ≡ true = sym w.if-self.false ∙ cut in let never : ⊥ = cc in absurd never
    ] in
    most_one (settled_of n.cut f.result) n.cut y s (step_cuts y r s has.receiving n.cut f.result sent still f.ensures.cut (f.ensures.uncut empty))
    (settled_err n.cut f.result _ (err_weaker f.result (s.cuts ≡ r.cuts) _ (λ same. record { sending = sent; receiving = same ∙ has.receiving }) (f.ensures.uncut_err empty)))

pub returns-then-not-has_waiting-clause-whole : goal.returns-then-not-has_waiting-clause-whole
returns-then-not-has_waiting-clause-whole g c = λ shown uncut begun h is.
    let m = c.args.self.now in
    let now = c.send.new.self in
    let same = c.send.ensures.others in
    unmoved begun m.receiver now.receiver (g.R.LinkRx.receiving c.args.rx.now).received (put_in m.into) (put_in now.into) (taken m.out) (taken now.out) (g.S.EntrySink.copy c.args.site.now) same.0 (ap put_in same.1) (ap taken same.2) h

pub returns-clause-whole : goal.returns-clause-whole
returns-clause-whole g c = λ shown uncut begun h.
    let m = c.args.self.now in
    let n = c.send.new.self in
    let same = c.send.ensures.others in
    let before = unmoved begun m.receiver n.receiver (g.R.LinkRx.receiving c.args.rx.now).received (put_in m.into) (put_in n.into) (taken m.out) (taken n.out) (g.S.EntrySink.copy c.args.site.now) same.0 (ap put_in same.1) (ap taken same.2) h in
    let f = c.follow-turned.new in
    rw c.settle.ensures (settled_whole n.cut c.follow-turned.result (HasFollowed begun f.receiver (g.R.LinkRx.receiving f.rx).received (put_in f.into) (taken f.out) (g.S.EntrySink.copy f.site)) uncut (c.follow-turned.ensures.whole shown begun before))

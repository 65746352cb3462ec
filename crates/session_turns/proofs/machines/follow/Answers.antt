use Rattle.std.proofs.Common.{◌≡◌, ◌⊎◌, inl, ℕ, ◌+◌, ◌≤◌, length, OnErr, sym, ap, ◌∙◌, arith}
use Rattle.std.specs.Prelude.{IsTrue}
use Rattle.recv_pool.specs.Pools.{put_in, taken}
use Rattle.ship_defs.specs.Hearing.{unbegun}
use Rattle.update_process.specs.Copies.{history_of}
use Rattle.session_turns.proofs.Heard.{comes_of, whole_of, unfit_of, going_of, over_of, short_at, cut_of, received_on}
use Rattle.session_turns.specs.Progress.{HasMoved, IsStill, IsEmptyPool}
use Rattle.session_turns.specs.Turns.{IsShort}
use Rattle.session_turns.proofs.Progress.{moved_or_still, on_of}
use Rattle.session_turns.proofs.Cuts.{err_weaker, uncut_of, uncut_err_of}
use Rattle.receiver_server.proofs.Told.{same_purpose}
use Rattle.session_turns.proofs.machines.follow.Goals as goal

pub returns-clause-going : goal.returns-clause-going
returns-clause-going g c = rw c.outcome.ensures (going_of c.offset.result c.step-heard.result c.apply-applied.result _ c.apply-applied.ensures.going c.apply-applied.ensures.on)

pub returns-clause-comes : goal.returns-clause-comes
returns-clause-comes g c = λ shown begun h.
    let heard = c.step-heard.ensures.hears shown _ h.frames h.hears in
    let bad = unfit_of c.step-heard.result c.args.receiver.now c.step-heard.new.self _ (unbegun (history_of begun)) (g.R.LinkRx.receiving c.args.rx.now).received (g.R.LinkRx.receiving c.step-heard.new.rx).received (put_in c.args.into.now) h.frames
    shown h.hears c.step-heard.ensures.does c.step-heard.ensures.bad in
    rw c.outcome.ensures (comes_of begun c.args.receiver.now c.step-heard.new.self (g.R.LinkRx.receiving c.args.rx.now).received (g.R.LinkRx.receiving c.step-heard.new.rx).received (put_in c.args.into.now) (taken c.args.out.now)
    (put_in c.step-heard.new.pool) (g.S.EntrySink.copy c.args.site.now) h c.step-heard.result heard.0 heard.1 heard.2 (put_in c.apply-applied.new.into) (taken c.apply-applied.new.out) (g.S.EntrySink.copy c.apply-applied.new.site)
    c.apply-applied.ensures.put c.step-heard.result c.apply-applied.result c.offset.result bad c.apply-applied.ensures.applied c.apply-applied.ensures.halted)

pub returns-clause-whole : goal.returns-clause-whole
returns-clause-whole g c = λ shown begun h.
    let heard = c.step-heard.ensures.hears shown _ h.frames h.hears in
    rw c.outcome.ensures (whole_of begun c.args.receiver.now c.step-heard.new.self (g.R.LinkRx.receiving c.args.rx.now).received (g.R.LinkRx.receiving c.step-heard.new.rx).received (put_in c.args.into.now) (taken c.args.out.now)
    (put_in c.step-heard.new.pool) (g.S.EntrySink.copy c.args.site.now) h c.step-heard.result heard.0 heard.1 heard.2 (put_in c.apply-applied.new.into) (taken c.apply-applied.new.out) (g.S.EntrySink.copy c.apply-applied.new.site)
    c.apply-applied.ensures.put c.step-heard.result c.apply-applied.result c.offset.result c.apply-applied.ensures.applied)

pub returns-clause-over : goal.returns-clause-over
returns-clause-over g c = rw c.outcome.ensures (over_of c.offset.result c.step-heard.result c.apply-applied.result _ c.step-heard.ensures.over)

pub returns-clause-cut : goal.returns-clause-cut
returns-clause-cut g c = rw c.outcome.ensures (cut_of c.offset.result c.step-heard.result c.apply-applied.result _ c.step-heard.ensures.cut)

pub returns-clause-hears : goal.returns-clause-hears
returns-clause-hears g c = λ pool.
    let a = c.args.receiver.now in
    let b = c.step-heard.new.self in
    let r = g.R.LinkRx.receiving c.args.rx.now in
    let s = g.R.LinkRx.receiving c.step-heard.new.rx in
    rw c.outcome.ensures (on_of c.offset.result c.step-heard.result c.apply-applied.result (HasMoved a b r s ⊎ IsStill a b r s) _ c.apply-applied.ensures.going (λ on going.
    moved_or_still a b r s c.step-heard.result on c.step-heard.ensures.does c.step-heard.ensures.rest (λ some. c.step-heard.ensures.room some pool.known)
    c.step-heard.ensures.waits c.step-heard.ensures.nothing c.step-heard.ensures.patience c.step-heard.ensures.still (λ over. c.step-heard.ensures.behind over pool.known)))

pub returns-clause-empty : goal.returns-clause-empty
returns-clause-empty g c = λ pool.
    let same : length (taken c.args.out.now) ≡ length (put_in c.args.into.now) = ap length pool.empty in
    let one = c.step-heard.ensures.one in
    let few : length (put_in c.step-heard.new.pool) ≤ length (taken c.args.out.now) + 1 = omega (arith, same, one) in
    let capacity = c.step-heard.ensures.pool.1 in
    let some = pool.places in
    rw c.outcome.ensures (on_of c.offset.result c.step-heard.result c.apply-applied.result (IsEmptyPool c.apply-applied.new.into c.apply-applied.new.out) (IsEmptyPool c.apply-applied.new.into c.apply-applied.new.out)
    (c.apply-applied.ensures.empty (omega (arith, capacity, some)) few) (λ on p. p))

pub returns-clause-uncut : goal.returns-clause-uncut
returns-clause-uncut g c = λ pool.
    let never = err_weaker c.step-heard.result (put_in c.step-heard.new.pool ≡ put_in c.args.into.now) (OnErr c.apply-applied.result ⊥) (λ same. c.apply-applied.ensures.nothing (pool.empty ∙ sym same)) c.step-heard.ensures.err in
    rw c.outcome.ensures (uncut_of c.offset.result c.step-heard.result c.apply-applied.result _ never c.step-heard.ensures.uncut)

pub returns-clause-uncut_err : goal.returns-clause-uncut_err
returns-clause-uncut_err g c = λ pool.
    let never = err_weaker c.step-heard.result (put_in c.step-heard.new.pool ≡ put_in c.args.into.now) (OnErr c.apply-applied.result ⊥) (λ same. c.apply-applied.ensures.nothing (pool.empty ∙ sym same)) c.step-heard.ensures.err in
    rw c.outcome.ensures (uncut_err_of c.offset.result c.step-heard.result c.apply-applied.result _ never c.step-heard.ensures.uncut)

pub returns-clause-purpose : goal.returns-clause-purpose
returns-clause-purpose g c = same_purpose c.step-heard.result c.args.receiver.now c.step-heard.new.self c.step-heard.ensures.does

pub returns-clause-short : goal.returns-clause-short
returns-clause-short g c =
    let b = c.step-heard.new.self in
    let closed = IsTrue (g.R.LinkRx.receiving c.step-heard.new.rx).closed in
    rw c.outcome.ensures (short_at c.offset.result c.step-heard.result c.apply-applied.result _ (λ (at : ℕ). IsShort b at × closed) (λ ended. (record { at = c.offset.ensures; idle = ended.0; going = ended.1 }, ended.2)) c.step-heard.ensures.ended)

pub returns-in-Ok-Received-clause-comes : goal.returns-in-Ok-Received-clause-comes
returns-in-Ok-Received-clause-comes g c = λ shown begun h.
    let heard = c.step-heard.ensures.hears shown _ h.frames h.hears in
    let received = rw c.in-Ok-Received.is at c.in-Ok-Received.field-0-is in
    let same = (rw c.in-Ok-Received.is at c.step-heard.ensures.received) received in
    inl (
      received_on begun c.args.receiver.now c.step-heard.new.self (g.R.LinkRx.receiving c.args.rx.now).received (g.R.LinkRx.receiving c.step-heard.new.rx).received (put_in c.args.into.now) (taken c.args.out.now) (put_in c.step-heard.new.pool)
          (g.S.EntrySink.copy c.args.site.now) h heard.0 heard.2 (ap put_in same),
      tt,
    )

use Rattle.std.proofs.Common.{◌≡◌, ◌<◌, ℕ, length, Some, get_or, sym, subst, arith}
use Rattle.std.specs.Prelude.{slice_get}
use Rattle.std.proofs.lemmas.Option.{slice_get-get_or}
use Rattle.disk_defs.proofs.Frames.{others_same}
use Rattle.region_journals.specs.Fronts.{IsNewestFile}
use Rattle.region_journals.specs.Journals.{HasSyncs, IsOpen}
use Rattle.region_journals.specs.Turns.{Turned}
use Rattle.region_journals.specs.Entering.{IsPartPrepared, HasTaken, Takes}
use Rattle.region_journals.proofs.Turns as turns
use Rattle.region_journals.proofs.Entered.{entry_begins, entry_moments, entry_frame, next_prepared}
use Rattle.region_journals.proofs.appending.append_all.Goals as goal

pub loop-journal-init : goal.loop-journal-init
loop-journal-init g c =
    let u = g.D.Disk.disk c.args.disk.now in
    let old = c.args.journals.now in
    let parts = c.args.parts.now in
    record {
      come = turns.begins (HasTaken parts) (Takes parts) u old;
      moments = λ h hard waiting ready keeps. entry_begins u h old hard waiting ready keeps;
      frame = λ h ready. others_same (IsNewestFile h (length old)) u;
      faults = omega arith;
    }

pub loop-journal-preserved : goal.loop-journal-preserved
loop-journal-preserved g c =
    let view = g.D.Disk.disk in
    let u = view c.args.disk.now in
    let v = view c.loop-journal.disk in
    let old = c.args.journals.now in
    let js = c.loop-journal.journals in
    let k = c.loop-journal.journal-index in
    let parts = c.args.parts.now in
    let inv = c.loop-journal.invariant in
    let y = get_or js k c.journal-item.result in
    let there : k < length old = c.loop-journal-test.true in
    let at : slice_get js k ≡ Some y = slice_get-get_or js k c.journal-item.result (omega (arith, there, inv.come.count)) in
    let next : IsOpen v c.requires.ready.0 HasSyncs k y = turns.next_open (HasTaken parts) (Takes parts) u v c.requires.ready.0 HasSyncs k old js c.requires.ready.1 inv.come y at in
    let w = view c.append.new.disk in
    let call = c.append.ensures in
    record {
      come = turns.goes_on (HasTaken parts) (Takes parts) u v c.requires.ready.0 HasSyncs k old js c.requires.ready.1 inv.come w y c.append.new.self at call.frame
          (subst (λ (r : ℕ). Turned v w (HasTaken parts) (Takes parts) r y c.append.new.self) next.of.region c.in_ok-append.ensures.turned);
      moments = λ h hard waiting ready keeps. entry_moments parts u v w k old js y inv.come at there (g.met.D.Disk.lawful c.loop-journal.disk) call.any_moment h hard waiting ready keeps (inv.moments h hard waiting ready keeps);
      frame = λ h ready. entry_frame parts u v w k old js y inv.come at there h ready (inv.frame h ready) call.frame;
      faults = omega (arith, inv.faults, call.cause.later);
    }

pub append-requires-clause-ready : goal.append-requires-clause-ready
append-requires-clause-ready g c =
    let view = g.D.Disk.disk in
    let u = view c.args.disk.now in
    let v = view c.loop-journal.disk in
    let old = c.args.journals.now in
    let js = c.loop-journal.journals in
    let k = c.loop-journal.journal-index in
    let parts = c.args.parts.now in
    let inv = c.loop-journal.invariant in
    let y = get_or js k c.journal-item.result in
    let there : k < length old = c.loop-journal-test.true in
    let at : slice_get js k ≡ Some y = slice_get-get_or js k c.journal-item.result (omega (arith, there, inv.come.count)) in
    let next : IsOpen v c.requires.ready.0 HasSyncs k y = turns.next_open (HasTaken parts) (Takes parts) u v c.requires.ready.0 HasSyncs k old js c.requires.ready.1 inv.come y at in
    next.ready

pub append-requires-clause-goes_on : goal.append-requires-clause-goes_on
append-requires-clause-goes_on g c =
    let view = g.D.Disk.disk in
    let u = view c.args.disk.now in
    let v = view c.loop-journal.disk in
    let old = c.args.journals.now in
    let js = c.loop-journal.journals in
    let k = c.loop-journal.journal-index in
    let parts = c.args.parts.now in
    let inv = c.loop-journal.invariant in
    let y = get_or js k c.journal-item.result in
    let there : k < length old = c.loop-journal-test.true in
    let at : slice_get js k ≡ Some y = slice_get-get_or js k c.journal-item.result (omega (arith, there, inv.come.count)) in
    let next : IsOpen v c.requires.ready.0 HasSyncs k y = turns.next_open (HasTaken parts) (Takes parts) u v c.requires.ready.0 HasSyncs k old js c.requires.ready.1 inv.come y at in
    next.goes_on

pub append-requires-clause-prepared : goal.append-requires-clause-prepared
append-requires-clause-prepared g c =
    let view = g.D.Disk.disk in
    let u = view c.args.disk.now in
    let v = view c.loop-journal.disk in
    let old = c.args.journals.now in
    let js = c.loop-journal.journals in
    let k = c.loop-journal.journal-index in
    let parts = c.args.parts.now in
    let inv = c.loop-journal.invariant in
    let y = get_or js k c.journal-item.result in
    let there : k < length old = c.loop-journal-test.true in
    let at : slice_get js k ≡ Some y = slice_get-get_or js k c.journal-item.result (omega (arith, there, inv.come.count)) in
    let next : IsOpen v c.requires.ready.0 HasSyncs k y = turns.next_open (HasTaken parts) (Takes parts) u v c.requires.ready.0 HasSyncs k old js c.requires.ready.1 inv.come y at in
    subst (λ (r : ℕ). IsPartPrepared parts r y) (sym next.of.region) (next_prepared parts u v v k old js y inv.come at there c.requires.prepared)

pub returns-in_err-append-clause-any_moment : goal.returns-in_err-append-clause-any_moment
returns-in_err-append-clause-any_moment g c h hard waiting ready keeps =
    let view = g.D.Disk.disk in
    let u = view c.args.disk.now in
    let v = view c.loop-journal.disk in
    let old = c.args.journals.now in
    let js = c.loop-journal.journals in
    let k = c.loop-journal.journal-index in
    let parts = c.args.parts.now in
    let inv = c.loop-journal.invariant in
    let y = get_or js k c.journal-item.result in
    let there : k < length old = c.loop-journal-test.true in
    let at : slice_get js k ≡ Some y = slice_get-get_or js k c.journal-item.result (omega (arith, there, inv.come.count)) in
    let w = view c.append.new.disk in
    let call = c.append.ensures in
    entry_moments parts u v w k old js y inv.come at there (g.met.D.Disk.lawful c.loop-journal.disk) call.any_moment h hard waiting ready keeps (inv.moments h hard waiting ready keeps)

pub returns-in_err-append-clause-frame : goal.returns-in_err-append-clause-frame
returns-in_err-append-clause-frame g c h ready =
    let view = g.D.Disk.disk in
    let u = view c.args.disk.now in
    let v = view c.loop-journal.disk in
    let old = c.args.journals.now in
    let js = c.loop-journal.journals in
    let k = c.loop-journal.journal-index in
    let parts = c.args.parts.now in
    let inv = c.loop-journal.invariant in
    let y = get_or js k c.journal-item.result in
    let there : k < length old = c.loop-journal-test.true in
    let at : slice_get js k ≡ Some y = slice_get-get_or js k c.journal-item.result (omega (arith, there, inv.come.count)) in
    let w = view c.append.new.disk in
    let call = c.append.ensures in
    entry_frame parts u v w k old js y inv.come at there h ready (inv.frame h ready) call.frame

pub returns-clause-turned : goal.returns-clause-turned
returns-clause-turned g c =
    let view = g.D.Disk.disk in
    let parts = c.args.parts.now in
    turns.ends (HasTaken parts) (Takes parts) (view c.args.disk.now) (view c.loop-journal.disk) c.loop-journal.journal-index c.args.journals.now c.loop-journal.journals (grind (arith, c.loop-journal-test.false, c.loop-journal.auto.journal-index-end)) c.loop-journal.invariant.come

use Rattle.std.proofs.Common.{◌≡◌, ◌<◌, ◌+◌, ◌∙◌, ℕ, length, Some, get_or, set, refl, subst, arith}
use Rattle.std.specs.Prelude.{slice_get}
use Rattle.std.proofs.lemmas.Option.{slice_get-get_or}
use Rattle.disk_defs.specs.Disk.{Image}
use Rattle.disk_defs.proofs.Frames.{others_same}
use Rattle.disk_defs.proofs.Moments.{started, nothing_new}
use Rattle.region_journals.specs.Fronts.{IsNewestFile}
use Rattle.region_journals.specs.Journals.{HasSyncs, IsOpen}
use Rattle.region_journals.specs.Entering.{IsPartPrepared, IsUnchanged, Stays}
use Rattle.region_journals.proofs.Turns as turns
use Rattle.region_journals.proofs.Moments as moments
use Rattle.region_journals.proofs.Prepared.{all_same, prepared_on, all_prepared}
use Rattle.region_journals.proofs.preparing.prepare_all.Goals as goal

pub loop-journal-init : goal.loop-journal-init
loop-journal-init g c =
    let u = g.D.Disk.disk c.args.disk.now in
    let old = c.args.journals.now in
    record {
      come = turns.begins IsUnchanged Stays u old;
      prepared = λ r x is low. absurd (omega (arith, low));
      moments = started u (Image u) (λ i now. now);
      frame = λ h ready. others_same (IsNewestFile h (length old)) u;
      faults = refl;
    }

pub loop-journal-preserved : goal.loop-journal-preserved
loop-journal-preserved g c =
    let view = g.D.Disk.disk in
    let u = view c.args.disk.now in
    let v = view c.loop-journal.disk in
    let old = c.args.journals.now in
    let js = c.loop-journal.journals in
    let k = c.loop-journal.journal-index in
    let parts = c.args.parts.now in
    let inv = c.loop-journal.invariant in
    let y = get_or js k c.journal-item.result in
    let there : k < length old = c.loop-journal-test.true in
    let at : slice_get js k ≡ Some y = slice_get-get_or js k c.journal-item.result (omega (arith, there, inv.come.count)) in
    let next : IsOpen v c.requires.ready.0 HasSyncs k y = turns.next_open IsUnchanged Stays u v c.requires.ready.0 HasSyncs k old js c.requires.ready.1 inv.come y at in
    let w = view c.prepare.new.disk in
    let call = c.prepare.ensures in
    record {
      come = turns.goes_on IsUnchanged Stays u v c.requires.ready.0 HasSyncs k old js c.requires.ready.1 inv.come w y c.prepare.new.self at call.frame (call.turned k);
      prepared = prepared_on parts k js c.prepare.new.self inv.prepared (subst (λ (r : ℕ). IsPartPrepared parts r c.prepare.new.self) next.of.region c.in_ok-prepare.ensures.prepared);
      moments = nothing_new u v w (Image u) (g.met.D.Disk.lawful c.loop-journal.disk) inv.moments call.any_moment;
      frame = λ h ready. moments.frame_on u v w h (length old) k y.journal.gated.file ready.few there (turns.file_at IsUnchanged Stays u v h HasSyncs k old js ready inv.come k y at) (inv.frame h ready) call.frame;
      faults = call.faults ∙ inv.faults;
    }

pub prepare-requires-clause-ready : goal.prepare-requires-clause-ready
prepare-requires-clause-ready g c =
    let view = g.D.Disk.disk in
    let u = view c.args.disk.now in
    let v = view c.loop-journal.disk in
    let old = c.args.journals.now in
    let js = c.loop-journal.journals in
    let k = c.loop-journal.journal-index in
    let parts = c.args.parts.now in
    let inv = c.loop-journal.invariant in
    let y = get_or js k c.journal-item.result in
    let there : k < length old = c.loop-journal-test.true in
    let at : slice_get js k ≡ Some y = slice_get-get_or js k c.journal-item.result (omega (arith, there, inv.come.count)) in
    let next : IsOpen v c.requires.ready.0 HasSyncs k y = turns.next_open IsUnchanged Stays u v c.requires.ready.0 HasSyncs k old js c.requires.ready.1 inv.come y at in
    next.ready

pub prepare-requires-clause-goes_on : goal.prepare-requires-clause-goes_on
prepare-requires-clause-goes_on g c =
    let view = g.D.Disk.disk in
    let u = view c.args.disk.now in
    let v = view c.loop-journal.disk in
    let old = c.args.journals.now in
    let js = c.loop-journal.journals in
    let k = c.loop-journal.journal-index in
    let parts = c.args.parts.now in
    let inv = c.loop-journal.invariant in
    let y = get_or js k c.journal-item.result in
    let there : k < length old = c.loop-journal-test.true in
    let at : slice_get js k ≡ Some y = slice_get-get_or js k c.journal-item.result (omega (arith, there, inv.come.count)) in
    let next : IsOpen v c.requires.ready.0 HasSyncs k y = turns.next_open IsUnchanged Stays u v c.requires.ready.0 HasSyncs k old js c.requires.ready.1 inv.come y at in
    next.goes_on

pub returns-in_err-prepare-clause-turned : goal.returns-in_err-prepare-clause-turned
returns-in_err-prepare-clause-turned g c =
    let view = g.D.Disk.disk in
    let u = view c.args.disk.now in
    let v = view c.loop-journal.disk in
    let old = c.args.journals.now in
    let js = c.loop-journal.journals in
    let k = c.loop-journal.journal-index in
    let parts = c.args.parts.now in
    let inv = c.loop-journal.invariant in
    let y = get_or js k c.journal-item.result in
    let there : k < length old = c.loop-journal-test.true in
    let at : slice_get js k ≡ Some y = slice_get-get_or js k c.journal-item.result (omega (arith, there, inv.come.count)) in
    let next : IsOpen v c.requires.ready.0 HasSyncs k y = turns.next_open IsUnchanged Stays u v c.requires.ready.0 HasSyncs k old js c.requires.ready.1 inv.come y at in
    let w = view c.prepare.new.disk in
    let call = c.prepare.ensures in
    all_same u w c.requires.ready.0 (k + 1) old (set js k c.prepare.new.self) c.requires.ready.1 (turns.goes_on IsUnchanged Stays u v c.requires.ready.0 HasSyncs k old js c.requires.ready.1 inv.come w y c.prepare.new.self at call.frame (call.turned k))

pub returns-in_err-prepare-clause-any_moment : goal.returns-in_err-prepare-clause-any_moment
returns-in_err-prepare-clause-any_moment g c =
    let view = g.D.Disk.disk in
    let u = view c.args.disk.now in
    let v = view c.loop-journal.disk in
    let old = c.args.journals.now in
    let js = c.loop-journal.journals in
    let k = c.loop-journal.journal-index in
    let parts = c.args.parts.now in
    let inv = c.loop-journal.invariant in
    let y = get_or js k c.journal-item.result in
    let there : k < length old = c.loop-journal-test.true in
    let at : slice_get js k ≡ Some y = slice_get-get_or js k c.journal-item.result (omega (arith, there, inv.come.count)) in
    let next : IsOpen v c.requires.ready.0 HasSyncs k y = turns.next_open IsUnchanged Stays u v c.requires.ready.0 HasSyncs k old js c.requires.ready.1 inv.come y at in
    let w = view c.prepare.new.disk in
    let call = c.prepare.ensures in
    nothing_new u v w (Image u) (g.met.D.Disk.lawful c.loop-journal.disk) inv.moments call.any_moment

pub returns-in_err-prepare-clause-frame : goal.returns-in_err-prepare-clause-frame
returns-in_err-prepare-clause-frame g c h ready =
    let view = g.D.Disk.disk in
    let u = view c.args.disk.now in
    let v = view c.loop-journal.disk in
    let old = c.args.journals.now in
    let js = c.loop-journal.journals in
    let k = c.loop-journal.journal-index in
    let parts = c.args.parts.now in
    let inv = c.loop-journal.invariant in
    let y = get_or js k c.journal-item.result in
    let there : k < length old = c.loop-journal-test.true in
    let at : slice_get js k ≡ Some y = slice_get-get_or js k c.journal-item.result (omega (arith, there, inv.come.count)) in
    let next : IsOpen v c.requires.ready.0 HasSyncs k y = turns.next_open IsUnchanged Stays u v c.requires.ready.0 HasSyncs k old js c.requires.ready.1 inv.come y at in
    let w = view c.prepare.new.disk in
    let call = c.prepare.ensures in
    moments.frame_on u v w h (length old) k y.journal.gated.file ready.few there (turns.file_at IsUnchanged Stays u v h HasSyncs k old js ready inv.come k y at) (inv.frame h ready) call.frame

pub returns-in_err-prepare-clause-faults : goal.returns-in_err-prepare-clause-faults
returns-in_err-prepare-clause-faults g c =
    let view = g.D.Disk.disk in
    let u = view c.args.disk.now in
    let v = view c.loop-journal.disk in
    let old = c.args.journals.now in
    let js = c.loop-journal.journals in
    let k = c.loop-journal.journal-index in
    let parts = c.args.parts.now in
    let inv = c.loop-journal.invariant in
    let y = get_or js k c.journal-item.result in
    let there : k < length old = c.loop-journal-test.true in
    let at : slice_get js k ≡ Some y = slice_get-get_or js k c.journal-item.result (omega (arith, there, inv.come.count)) in
    let next : IsOpen v c.requires.ready.0 HasSyncs k y = turns.next_open IsUnchanged Stays u v c.requires.ready.0 HasSyncs k old js c.requires.ready.1 inv.come y at in
    let w = view c.prepare.new.disk in
    let call = c.prepare.ensures in
    call.faults ∙ inv.faults

pub returns-clause-turned : goal.returns-clause-turned
returns-clause-turned g c =
    let view = g.D.Disk.disk in
    all_same (view c.args.disk.now) (view c.loop-journal.disk) c.requires.ready.0 c.loop-journal.journal-index c.args.journals.now c.loop-journal.journals c.requires.ready.1 c.loop-journal.invariant.come

pub returns-clause-prepared : goal.returns-clause-prepared
returns-clause-prepared g c =
    all_prepared c.args.parts.now c.loop-journal.journal-index c.loop-journal.journals (grind (arith, c.loop-journal-test.false, c.loop-journal.auto.journal-index-end, c.loop-journal.invariant.come.count)) c.loop-journal.invariant.prepared

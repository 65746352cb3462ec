use Rattle.std.proofs.Common.{◌<◌, [], length, refl, ◌∙◌, arith}
use Rattle.disk_defs.proofs.Frames.{others_same, others_then}
use Rattle.region_journals.specs.Fronts.{IsNewestFile}
use Rattle.region_epochs.proofs.Reading.{begins, first_then, moments_as, frame_as}
use Rattle.region_epochs.proofs.Turned.{logged_first, logged_more, logged_all_of, still_held}
use Rattle.region_epochs.proofs.imaging.log_regions.Goals as goal

pub loop-number-init : goal.loop-number-init
loop-number-init g c =
    let u = g.D.Disk.disk c.args.disk.now in
    let old = c.args.journals.now.journals.items in
    record {
      few = omega arith;
      ready = λ h ready. ready;
      state = logged_first u old c.args.regions.now;
      waits = λ hard keeps. (λ r. [], keeps);
      count = refl;
      moments = λ h hard ready keeps. begins u h old hard (λ r. []) ready keeps;
      frame = λ h ready. others_same (IsNewestFile h (length old)) u;
      faults = omega arith;
    }

pub loop-number-preserved : goal.loop-number-preserved
loop-number-preserved g c =
    let view = g.D.Disk.disk in
    let u = view c.args.disk.now in
    let v = view c.loop-number.disk in
    let w = view c.log_region.new.disk in
    let old = c.args.journals.now.journals.items in
    let js = c.loop-number.journals.journals.items in
    let ks = c.log_region.new.journals.journals.items in
    let j = c.args.regions.now in
    let k = c.loop-number.number in
    let inv = c.loop-number.invariant in
    let t = c.requires.together in
    let call = c.log_region.ensures in
    let low : k < length j.regions = omega (arith, c.loop-number-test.true, c.count-number-end.ensures.count) in
    record {
      few = omega (arith, low);
      ready = λ h ready. c.in_ok-log_region.ensures.ready h (inv.ready h ready);
      state = logged_more u v w t.0 old js ks j k t.1.ready inv.frame (omega (arith, low, t.1.count)) (t.1.files k low) inv.state c.in_ok-log_region.ensures.state;
      waits = λ hard keeps. let wait = inv.waits hard keeps in c.in_ok-log_region.ensures.waits hard wait.0 wait.1;
      count = call.count ∙ inv.count;
      moments = λ h hard ready keeps.
          let wait = inv.waits hard keeps in
          first_then u v w h (length old) hard (λ r. []) wait.0 (g.met.D.Disk.lawful c.loop-number.disk) (inv.moments h hard ready keeps)
          (moments_as v w h hard wait.0 (length js) (length old) inv.count (call.any_moment h hard wait.0 (inv.ready h ready) wait.1));
      frame = λ h ready. others_then (IsNewestFile h (length old)) u v w (inv.frame h ready) (frame_as v w h (length js) (length old) inv.count (call.frame h (inv.ready h ready)));
      faults = omega (arith, inv.faults, call.faults.later);
    }

pub log_region-requires-clause-ready : goal.log_region-requires-clause-ready
log_region-requires-clause-ready g c = let t = c.requires.together in (t.0, c.loop-number.invariant.ready t.0 t.1.ready)

pub log_region-requires-clause-in_journals : goal.log_region-requires-clause-in_journals
log_region-requires-clause-in_journals g c = let t = c.requires.together in omega (arith, c.loop-number-test.true, c.count-number-end.ensures.count, c.loop-number.invariant.count, t.1.count)

pub log_region-requires-clause-held : goal.log_region-requires-clause-held
log_region-requires-clause-held g c =
    let view = g.D.Disk.disk in
    let u = view c.args.disk.now in
    let v = view c.loop-number.disk in
    let old = c.args.journals.now.journals.items in
    let js = c.loop-number.journals.journals.items in
    let j = c.args.regions.now in
    let k = c.loop-number.number in
    let t = c.requires.together in
    let low : k < length j.regions = omega (arith, c.loop-number-test.true, c.count-number-end.ensures.count) in
    still_held u v v t.0 old js js j k t.1.ready c.loop-number.invariant.frame (omega (arith, low, t.1.count)) (t.1.files k low) (t.1.held k low)

pub returns-clause-state : goal.returns-clause-state
returns-clause-state g c =
    let view = g.D.Disk.disk in
    logged_all_of (view c.args.disk.now) (view c.loop-number.disk) c.args.journals.now.journals.items c.loop-number.journals.journals.items c.args.regions.now c.loop-number.number
    (omega (arith, c.loop-number-test.false, c.count-number-end.ensures.count)) c.loop-number.invariant.state

pub returns-in_err-log_region-clause-any_moment : goal.returns-in_err-log_region-clause-any_moment
returns-in_err-log_region-clause-any_moment g c h hard ready keeps =
    let view = g.D.Disk.disk in
    let old = c.args.journals.now.journals.items in
    let inv = c.loop-number.invariant in
    let wait = inv.waits hard keeps in
    let v = view c.loop-number.disk in
    let w = view c.log_region.new.disk in
    first_then (view c.args.disk.now) v w h (length old) hard (λ r. []) wait.0 (g.met.D.Disk.lawful c.loop-number.disk) (inv.moments h hard ready keeps)
    (moments_as v w h hard wait.0 (length c.loop-number.journals.journals.items) (length old) inv.count (c.log_region.ensures.any_moment h hard wait.0 (inv.ready h ready) wait.1))

pub returns-in_err-log_region-clause-frame : goal.returns-in_err-log_region-clause-frame
returns-in_err-log_region-clause-frame g c h ready =
    let view = g.D.Disk.disk in
    let old = c.args.journals.now.journals.items in
    let inv = c.loop-number.invariant in
    let v = view c.loop-number.disk in
    let w = view c.log_region.new.disk in
    others_then (IsNewestFile h (length old)) (view c.args.disk.now) v w (inv.frame h ready) (frame_as v w h (length c.loop-number.journals.journals.items) (length old) inv.count (c.log_region.ensures.frame h (inv.ready h ready)))

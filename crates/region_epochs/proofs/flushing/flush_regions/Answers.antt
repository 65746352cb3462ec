use Rattle.std.proofs.Common.{◌≡◌, ◌<◌, ℕ, length, replicate, false, ◌∙◌, sym, ap, subst, arith}
use Rattle.disk_defs.specs.Disk.{Image, From}
use Rattle.journal_defs.specs.Journal as journal
use Rattle.disk_defs.proofs.Frames.{others_same}
use Rattle.disk_defs.proofs.Moments.{started}
use Rattle.region_store.specs.Region.{Standing, AreLogged, flushed}
use Rattle.region_store.specs.Joined.{region_at}
use Rattle.region_epochs.specs.Files.{IsDatabaseFile}
use Rattle.region_epochs.specs.Flushed.{AreCutShort}
use Rattle.region_epochs.proofs.Lifts.{none_lifted, one_lifted, none_yet, nodes_then}
use Rattle.region_epochs.proofs.Written.{no_epochs, epoch_then, none_cut, file_still, moments_then, frame_then, holds_then, held_then, durable_then, restored_then, all_restored, none_below, none_restored}
use Rattle.region_epochs.proofs.flushing.flush_regions.Goals as goal

pub loop-region-init : goal.loop-region-init
loop-region-init g c =
    let u = g.D.Disk.disk c.args.disk.now in
    let old = c.args.regions.now in
    record {
      few = omega arith;
      lifted = none_lifted (λ r x y. y ≡ flushed x) old;
      epochs = no_epochs c.args.closing c.args.number old c.new-made.result c.new-made.ensures.epochs c.new-made.ensures.images;
      restores = none_restored old u.content;
      durable = none_below u u.content;
      held = c.requires.held;
      holds = λ r e low held. held;
      same = none_yet old;
      moments = started u (From (Image u) (AreCutShort old)) (λ d now. (d, now, none_cut old d));
      frame = others_same (IsDatabaseFile (length old.regions)) u;
      faults = omega arith;
    }

pub loop-region-preserved : goal.loop-region-preserved
loop-region-preserved g c =
    let view = g.D.Disk.disk in
    let u = view c.args.disk.now in
    let v = view c.loop-region.disk in
    let w = view c.flush.new.disk in
    let old = c.args.regions.now in
    let now = c.loop-region.regions in
    let new = c.flush.new.self in
    let k = c.loop-region.region in
    let inv = c.loop-region.invariant in
    let call = c.flush.ensures in
    let ok = c.in_ok-epoch.ensures in
    let low : k < length old.regions = omega (arith, c.loop-region-test.true, c.count-region-end.ensures.count) in
    let left : region_at now k ≡ region_at old k = inv.lifted.left k (omega arith) in
    let files = c.requires.writable.files in
    let nodes = nodes_then k old now new inv.same call.same (file_still c.flush.result (region_at now k) (region_at new k) call.ok call.err) in
    let count : c.blocks-blocks.result ≡ length (region_at old k).pool.leaves = c.blocks-blocks.ensures.count ∙ ap (λ (x : Standing). length x.pool.leaves) (sym c.region.ensures.at ∙ ok.ok ∙ ap flushed left) in
    record {
      few = omega (arith, low);
      lifted = one_lifted (λ r x y. y ≡ flushed x) k old now new inv.lifted call.same ok.ok;
      epochs = epoch_then c.args.closing c.args.number k old c.loop-region.made c.push.new.self c.in_ok-epoch.epoch c.in_ok-new.field-0 inv.epochs c.in_ok-push.ensures.epochs c.in_ok-push.ensures.images
          (ok.epoch ∙ ap (λ (x : Standing). journal.Epoch (record { closing = c.args.closing; number = c.args.number; blocks = length x.pool.leaves })) left)
          c.requires.number (omega (arith, count, c.blocks-blocks.type_inv)) (c.in_ok-new.ensures ∙ ap (λ (n : ℕ). replicate n false) count);
      restores = restored_then u v w old now new k low files left call.same call.frame inv.restores ok.restores;
      durable = durable_then u v w old now new k low files left call.same call.frame inv.durable ok.durable;
      held = λ r here. held_then u v w old now new k low files left call.same call.frame call.holds r (inv.same.files r ∙ files r here) (nodes.files r ∙ files r here) (inv.held r here);
      holds = λ r e here held. holds_then u v w old now new k low files left call.same call.frame call.holds r e (inv.holds r e here held);
      same = nodes;
      moments = moments_then u v w old now new k low files left call.same call.frame (g.met.D.Disk.lawful c.loop-region.disk) inv.moments call.any_moment;
      frame = frame_then u v w old now new k low files left call.same call.frame inv.frame;
      faults = omega (arith, inv.faults, call.faults.later);
    }

pub flush-requires-clause-inside : goal.flush-requires-clause-inside
flush-requires-clause-inside g c = let count = c.loop-region.invariant.same.count in omega (arith, c.loop-region-test.true, c.count-region-end.ensures.count, count)

pub flush-requires-clause-held : goal.flush-requires-clause-held
flush-requires-clause-held g c = c.loop-region.invariant.held c.loop-region.region (omega (arith, c.loop-region-test.true, c.count-region-end.ensures.count))

pub flush-requires-clause-logged : goal.flush-requires-clause-logged
flush-requires-clause-logged g c =
    let k = c.loop-region.region in
    subst AreLogged (sym (c.loop-region.invariant.lifted.left k (omega arith))) (c.requires.writable.logged k (omega (arith, c.loop-region-test.true, c.count-region-end.ensures.count)))

pub returns-in_err-epoch-clause-same : goal.returns-in_err-epoch-clause-same
returns-in_err-epoch-clause-same g c =
    let now = c.loop-region.regions in
    let new = c.flush.new.self in
    let k = c.loop-region.region in
    let call = c.flush.ensures in
    nodes_then k c.args.regions.now now new c.loop-region.invariant.same call.same (file_still c.flush.result (region_at now k) (region_at new k) call.ok call.err)

pub returns-in_err-epoch-clause-any_moment : goal.returns-in_err-epoch-clause-any_moment
returns-in_err-epoch-clause-any_moment g c =
    let view = g.D.Disk.disk in
    let old = c.args.regions.now in
    let k = c.loop-region.region in
    let inv = c.loop-region.invariant in
    let call = c.flush.ensures in
    let low : k < length old.regions = omega (arith, c.loop-region-test.true, c.count-region-end.ensures.count) in
    moments_then (view c.args.disk.now) (view c.loop-region.disk) (view c.flush.new.disk) old c.loop-region.regions c.flush.new.self k low c.requires.writable.files (inv.lifted.left k (omega arith)) call.same call.frame
    (g.met.D.Disk.lawful c.loop-region.disk) inv.moments call.any_moment

pub returns-in_err-epoch-clause-frame : goal.returns-in_err-epoch-clause-frame
returns-in_err-epoch-clause-frame g c =
    let view = g.D.Disk.disk in
    let old = c.args.regions.now in
    let k = c.loop-region.region in
    let inv = c.loop-region.invariant in
    let call = c.flush.ensures in
    let low : k < length old.regions = omega (arith, c.loop-region-test.true, c.count-region-end.ensures.count) in
    frame_then (view c.args.disk.now) (view c.loop-region.disk) (view c.flush.new.disk) old c.loop-region.regions c.flush.new.self k low c.requires.writable.files (inv.lifted.left k (omega arith)) call.same call.frame inv.frame

pub returns-in_err-new-clause-same : goal.returns-in_err-new-clause-same
returns-in_err-new-clause-same g c =
    let now = c.loop-region.regions in
    let new = c.flush.new.self in
    let k = c.loop-region.region in
    let call = c.flush.ensures in
    nodes_then k c.args.regions.now now new c.loop-region.invariant.same call.same (file_still c.flush.result (region_at now k) (region_at new k) call.ok call.err)

pub returns-in_err-new-clause-any_moment : goal.returns-in_err-new-clause-any_moment
returns-in_err-new-clause-any_moment g c =
    let view = g.D.Disk.disk in
    let old = c.args.regions.now in
    let k = c.loop-region.region in
    let inv = c.loop-region.invariant in
    let call = c.flush.ensures in
    let low : k < length old.regions = omega (arith, c.loop-region-test.true, c.count-region-end.ensures.count) in
    moments_then (view c.args.disk.now) (view c.loop-region.disk) (view c.flush.new.disk) old c.loop-region.regions c.flush.new.self k low c.requires.writable.files (inv.lifted.left k (omega arith)) call.same call.frame
    (g.met.D.Disk.lawful c.loop-region.disk) inv.moments call.any_moment

pub returns-in_err-new-clause-frame : goal.returns-in_err-new-clause-frame
returns-in_err-new-clause-frame g c =
    let view = g.D.Disk.disk in
    let old = c.args.regions.now in
    let k = c.loop-region.region in
    let inv = c.loop-region.invariant in
    let call = c.flush.ensures in
    let low : k < length old.regions = omega (arith, c.loop-region-test.true, c.count-region-end.ensures.count) in
    frame_then (view c.args.disk.now) (view c.loop-region.disk) (view c.flush.new.disk) old c.loop-region.regions c.flush.new.self k low c.requires.writable.files (inv.lifted.left k (omega arith)) call.same call.frame inv.frame

pub returns-in_err-push-clause-same : goal.returns-in_err-push-clause-same
returns-in_err-push-clause-same g c =
    let now = c.loop-region.regions in
    let new = c.flush.new.self in
    let k = c.loop-region.region in
    let call = c.flush.ensures in
    nodes_then k c.args.regions.now now new c.loop-region.invariant.same call.same (file_still c.flush.result (region_at now k) (region_at new k) call.ok call.err)

pub returns-in_err-push-clause-any_moment : goal.returns-in_err-push-clause-any_moment
returns-in_err-push-clause-any_moment g c =
    let view = g.D.Disk.disk in
    let old = c.args.regions.now in
    let k = c.loop-region.region in
    let inv = c.loop-region.invariant in
    let call = c.flush.ensures in
    let low : k < length old.regions = omega (arith, c.loop-region-test.true, c.count-region-end.ensures.count) in
    moments_then (view c.args.disk.now) (view c.loop-region.disk) (view c.flush.new.disk) old c.loop-region.regions c.flush.new.self k low c.requires.writable.files (inv.lifted.left k (omega arith)) call.same call.frame
    (g.met.D.Disk.lawful c.loop-region.disk) inv.moments call.any_moment

pub returns-in_err-push-clause-frame : goal.returns-in_err-push-clause-frame
returns-in_err-push-clause-frame g c =
    let view = g.D.Disk.disk in
    let old = c.args.regions.now in
    let k = c.loop-region.region in
    let inv = c.loop-region.invariant in
    let call = c.flush.ensures in
    let low : k < length old.regions = omega (arith, c.loop-region-test.true, c.count-region-end.ensures.count) in
    frame_then (view c.args.disk.now) (view c.loop-region.disk) (view c.flush.new.disk) old c.loop-region.regions c.flush.new.self k low c.requires.writable.files (inv.lifted.left k (omega arith)) call.same call.frame inv.frame

pub returns-clause-restores : goal.returns-clause-restores
returns-clause-restores g c =
    let inv = c.loop-region.invariant in
    all_restored (g.D.Disk.disk c.loop-region.disk).content c.args.regions.now c.loop-region.regions c.loop-region.region (omega (arith, c.loop-region-test.false, c.count-region-end.ensures.count)) inv.same.count inv.lifted inv.restores

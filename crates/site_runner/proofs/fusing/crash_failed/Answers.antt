use Rattle.std.proofs.Common.{refl, ◌∙◌, sym}
use Rattle.site_runner.specs.declared.slot.Slot.TheVariants as slots
use Rattle.site_runner.specs.Ending.{failed}
use Rattle.site_runner.specs.Sites.{Failed}
use Rattle.site_runner.proofs.Crashed.{crash_leaves, crash_refused}
use Rattle.site_runner.proofs.fusing.crash_failed.Goals as goal

pub returns-then-not-simulated-clause-left : goal.returns-then-not-simulated-clause-left
returns-then-not-simulated-clause-left g c =
    crash_refused g.D.Disk.disk (slots.Failed c.args.disk c.args.name c.args.fault) (failed c.args.name c.args.fault) c.as_slice.result.now c.refuse-ended.result c.args.text.now c.refuse-ended.new.text refl refl (sym c.if-not-simulated.true ∙ c.simulated.ensures) c.as_slice.ensures c.refuse-ended.ensures

pub returns-clause-left : goal.returns-clause-left
returns-clause-left g c =
    let e = c.crash_disk.ensures in
    crash_leaves g.D.Disk.disk (slots.Failed c.args.disk c.args.name c.args.fault) (Failed c.args.fault) c.args.disk c.args.name c.crash_disk.result c.args.text.now c.crash_disk.new.text refl refl refl e.down e.done e.kept

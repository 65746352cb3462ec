use Rattle.std.proofs.Common.{refl, ◌∙◌, sym, ap}
use Rattle.site_store.specs.Owning.{disk_of}
use Rattle.site_runner.specs.declared.slot.Slot.TheVariants as slots
use Rattle.site_runner.specs.Ending.{primary}
use Rattle.site_runner.specs.Sites.{Primary, reign_in}
use Rattle.site_runner.proofs.Crashed.{crash_leaves, crash_refused}
use Rattle.site_runner.proofs.fusing.crash_open.Goals as goal

pub returns-then-not-simulated-clause-left : goal.returns-then-not-simulated-clause-left
returns-then-not-simulated-clause-left g c =
    crash_refused g.D.Disk.disk (slots.Open c.args.reign c.args.name) (primary c.args.name c.args.reign.value) c.as_slice.result.now c.refuse-ended.result c.args.text.now c.refuse-ended.new.text refl refl (sym c.if-not-simulated.true ∙ c.simulated.ensures ∙ ap (λ r. (g.D.Disk.disk (disk_of r.site)).simulated) c.deref.ensures) c.as_slice.ensures c.refuse-ended.ensures

pub returns-clause-left : goal.returns-clause-left
returns-clause-left g c =
    let e = c.crash_disk.ensures in
    crash_leaves g.D.Disk.disk (slots.Open c.args.reign c.args.name) (Primary (reign_in c.args.reign.value)) c.abandon.result c.args.name c.crash_disk.result c.args.text.now c.crash_disk.new.text refl (c.abandon.ensures ∙ ap (λ r. disk_of r.site) c.into_inner.ensures) refl e.down e.done e.kept

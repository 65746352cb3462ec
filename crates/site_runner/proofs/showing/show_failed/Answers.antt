use Rattle.std.proofs.Common.{refl}
use Rattle.site_runner.specs.declared.slot.Slot.TheVariants as slots
use Rattle.site_runner.specs.Ending.{failed}
use Rattle.site_runner.proofs.Endings.{shows_leaves}
use Rattle.site_runner.proofs.showing.show_failed.Goals as goal

pub returns-clause-left : goal.returns-clause-left
returns-clause-left g c =
    shows_leaves g.D.Disk.disk (slots.Failed c.args.disk c.args.name c.args.fault) (failed c.args.name c.args.fault) c.as_slice.result.now c.write_numbered-written.result c.after.result c.args.text.now _ refl c.as_slice.ensures c.after.ensures.written c.after.ensures.unwritten c.write_numbered-written.ensures

use Rattle.std.proofs.Common.{None, Some, Ok, Err, refl}
use Rattle.site_runner.specs.declared.slot.Slot.TheVariants.{Free}
use Rattle.site_runner.proofs.Results.{on_refused}
use Rattle.site_runner.proofs.attach.attach_at.Goals as goal

pub returns-in-Err-clause-left : goal.returns-in-Err-clause-left
returns-in-Err-clause-left g c = (Err c.in-Err.error, Free c.look.new.disk, c.in-Err.ensures.seen, (refl, on_refused c.write_failure-ended.result _ _ c.write_failure-ended.ensures (λ t. t)))

pub returns-in-Ok-None-clause-left : goal.returns-in-Ok-None-clause-left
returns-in-Ok-None-clause-left g c = (Ok None, Free c.look.new.disk, rw c.in-Ok-None.field-0-is at c.in-Ok-None.ensures.seen, (refl, on_refused c.refuse-ended.result _ _ c.refuse-ended.ensures (λ t. t)))

pub returns-in-Ok-Some-clause-left : goal.returns-in-Ok-Some-clause-left
returns-in-Ok-Some-clause-left g c = (Ok (Some c.in-Ok-Some.found), Free c.look.new.disk, rw c.in-Ok-Some.field-0-is at c.in-Ok-Some.ensures.seen, (c.take_site.ensures.kept, c.take_site.ensures.done))

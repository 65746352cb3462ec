use Rattle.std.proofs.Common.{true, length}
use Rattle.site_defs.specs.Epochs.{marked}
use Rattle.site_store.proofs.Errors.{finish_causes, harden_causes, on_ok}
use Rattle.site_store.proofs.Owned.{fronts_finish, fronts_stand, finish_moments, finish_stands, fronts_mark, finish_marks, settled_reads, settled_left}
use Rattle.site_store.proofs.Standing.{images_stand}
use Rattle.site_store.proofs.site.Site.close.Goals as goal

pub returns-clause-any_moment : goal.returns-clause-any_moment
returns-clause-any_moment g c x h is = fronts_finish (g.D.Disk.disk c.args.self.disk) (g.D.Disk.disk c.harden.new.self.disk) x h (c.harden.ensures.any_moment x h is)

pub returns-clause-stands : goal.returns-clause-stands
returns-clause-stands g c x h is = fronts_stand (g.D.Disk.disk c.harden.new.self.disk).content x h (c.harden.ensures.stands x h is)

pub returns-in-Ok-clause-reads : goal.returns-in-Ok-clause-reads
returns-in-Ok-clause-reads g c = on_ok c.take_epoch-closed.result _ _ c.take_epoch-closed.ensures.done (λ done x h is.
    settled_reads (g.D.Disk.disk c.take_epoch-closed.new.self.disk) (marked x) c.take_epoch-closed.new.self.inner (g.met.D.Disk.lawful c.take_epoch-closed.new.self.disk) (done true x (c.in-Ok.ensures.done true x h is)).inner)

pub returns-in-Ok-clause-images : goal.returns-in-Ok-clause-images
returns-in-Ok-clause-images g c = on_ok c.take_epoch-closed.result _ _ c.take_epoch-closed.ensures.done (λ done x h is.
    images_stand (g.D.Disk.disk c.take_epoch-closed.new.self.disk) (marked x) c.take_epoch-closed.new.self.inner (done true x (c.in-Ok.ensures.done true x h is)).inner)

pub returns-in-Ok-clause-nothing_left : goal.returns-in-Ok-clause-nothing_left
returns-in-Ok-clause-nothing_left g c = on_ok c.take_epoch-closed.result _ _ c.take_epoch-closed.ensures.done (λ done x h is.
    settled_left (g.D.Disk.disk c.take_epoch-closed.new.self.disk) (marked x) c.take_epoch-closed.new.self.inner (done true x (c.in-Ok.ensures.done true x h is)).inner)

pub returns-in-Ok-clause-none_needs : goal.returns-in-Ok-clause-none_needs
returns-in-Ok-clause-none_needs g c = on_ok c.take_epoch-closed.result _ _ c.take_epoch-closed.ensures.none_needs (λ none x h is f now. none x (c.in-Ok.ensures.done true x h is) f now)

pub returns-in-Ok-clause-any_moment : goal.returns-in-Ok-clause-any_moment
returns-in-Ok-clause-any_moment g c x h is =
    finish_moments (g.D.Disk.disk c.args.self.disk) (g.D.Disk.disk c.harden.new.self.disk) (g.D.Disk.disk c.take_epoch-closed.new.self.disk) x h
    (c.harden.ensures.any_moment x h is) (c.take_epoch-closed.ensures.any_moment x (c.in-Ok.ensures.done true x h is))

pub returns-in-Ok-clause-stands : goal.returns-in-Ok-clause-stands
returns-in-Ok-clause-stands g c x h is =
    finish_stands (g.D.Disk.disk c.args.self.disk) (g.D.Disk.disk c.harden.new.self.disk) (g.D.Disk.disk c.take_epoch-closed.new.self.disk) x h (g.met.D.Disk.lawful c.take_epoch-closed.new.self.disk)
    (c.harden.ensures.any_moment x h is) (c.take_epoch-closed.ensures.any_moment x (c.in-Ok.ensures.done true x h is))

pub returns-clause-marks : goal.returns-clause-marks
returns-clause-marks g c x is = fronts_mark (g.D.Disk.disk c.args.self.disk) (g.D.Disk.disk c.harden.new.self.disk) x (c.harden.ensures.left x (length x.sequence) is)

pub returns-in-Ok-clause-marks : goal.returns-in-Ok-clause-marks
returns-in-Ok-clause-marks g c x is =
    finish_marks (g.D.Disk.disk c.args.self.disk) (g.D.Disk.disk c.harden.new.self.disk) (g.D.Disk.disk c.take_epoch-closed.new.self.disk) x
    (c.harden.ensures.left x (length x.sequence) is) (c.take_epoch-closed.ensures.left x (c.in-Ok.ensures.done true x (length x.sequence) is))

pub returns-in-Ok-clause-causes : goal.returns-in-Ok-clause-causes
returns-in-Ok-clause-causes g c = finish_causes c.take_epoch-closed.result c.take_epoch-closed.ensures.causes

pub returns-clause-causes : goal.returns-clause-causes
returns-clause-causes g c = harden_causes c.in-Err.error c.in-Err.ensures.causes

use Rattle.std.proofs.Common.{true, length}
use Rattle.site_store.proofs.Errors.{on_ok}
use Rattle.site_store.proofs.Owned.{fronts_finish, fronts_stand, finish_moments, finish_stands, fronts_mark, finish_marks}
use Rattle.site_store.proofs.site.Site.epoch.Goals as goal

pub returns-in_err-harden-clause-any_moment : goal.returns-in_err-harden-clause-any_moment
returns-in_err-harden-clause-any_moment g c x h is = fronts_finish (g.D.Disk.disk c.args.self.now.disk) (g.D.Disk.disk c.harden.new.self.disk) x h (c.harden.ensures.any_moment x h is)

pub returns-in_err-harden-clause-stands : goal.returns-in_err-harden-clause-stands
returns-in_err-harden-clause-stands g c x h is = fronts_stand (g.D.Disk.disk c.harden.new.self.disk).content x h (c.harden.ensures.stands x h is)

pub returns-clause-done : goal.returns-clause-done
returns-clause-done g c = on_ok c.take_epoch.result _ _ c.take_epoch.ensures.done (λ done told x h is. done told x (c.in_ok-harden.ensures.done told x h is))

pub returns-clause-none_needs : goal.returns-clause-none_needs
returns-clause-none_needs g c = on_ok c.take_epoch.result _ _ c.take_epoch.ensures.none_needs (λ none x h is f now. none x (c.in_ok-harden.ensures.done true x h is) f now)

pub returns-clause-any_moment : goal.returns-clause-any_moment
returns-clause-any_moment g c x h is =
    finish_moments (g.D.Disk.disk c.args.self.now.disk) (g.D.Disk.disk c.harden.new.self.disk) (g.D.Disk.disk c.take_epoch.new.self.disk) x h
    (c.harden.ensures.any_moment x h is) (c.take_epoch.ensures.any_moment x (c.in_ok-harden.ensures.done true x h is))

pub returns-clause-stands : goal.returns-clause-stands
returns-clause-stands g c x h is =
    finish_stands (g.D.Disk.disk c.args.self.now.disk) (g.D.Disk.disk c.harden.new.self.disk) (g.D.Disk.disk c.take_epoch.new.self.disk) x h (g.met.D.Disk.lawful c.take_epoch.new.self.disk)
    (c.harden.ensures.any_moment x h is) (c.take_epoch.ensures.any_moment x (c.in_ok-harden.ensures.done true x h is))

pub returns-in_err-harden-clause-marks : goal.returns-in_err-harden-clause-marks
returns-in_err-harden-clause-marks g c x is = fronts_mark (g.D.Disk.disk c.args.self.now.disk) (g.D.Disk.disk c.harden.new.self.disk) x (c.harden.ensures.left x (length x.sequence) is)

pub returns-clause-marks : goal.returns-clause-marks
returns-clause-marks g c x is =
    finish_marks (g.D.Disk.disk c.args.self.now.disk) (g.D.Disk.disk c.harden.new.self.disk) (g.D.Disk.disk c.take_epoch.new.self.disk) x
    (c.harden.ensures.left x (length x.sequence) is) (c.take_epoch.ensures.left x (c.in_ok-harden.ensures.done true x (length x.sequence) is))

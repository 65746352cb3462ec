use Rattle.std.proofs.Common.{◌≡◌, Err, true, take, ap, sym, subst}
use Rattle.std.specs.Prelude.{Option, IfSome}
use Rattle.disk_defs.specs.Disk.{AtEachMoment}
use Rattle.disk_defs.proofs.Moments.{then_more}
use Rattle.gvn_model.specs.Entries.{transaction_value}
use Rattle.gvn_model.specs.declared.reign.Stamp.{Stamp}
use Rattle.site_defs.specs.Contents.{NO_LEFTOVER}
use Rattle.site_defs.specs.Fronts.{with_sequence}
use Rattle.site_defs.specs.Stands.{IsSite, HasLeft}
use Rattle.site_store.specs.declared.error.SiteError.TheVariants as error
use Rattle.site_store.specs.Site.{IsOpen, with_entry}
use Rattle.site_store.specs.Owning.{IsOpenSite}
use Rattle.site_store.proofs.Committed as committed
use Rattle.site_store.proofs.Logged as logging
use Rattle.site_store.proofs.site.Site.commit.Goals as goal

pub returns-then-len-ge-LAST_NUMBER-clause-bare : goal.returns-then-len-ge-LAST_NUMBER-clause-bare
returns-then-len-ge-LAST_NUMBER-clause-bare g c y h o = committed.quiet_bare (g.D.Disk.disk c.args.self.now.disk) y h c.args.self.now.inner o.inner

pub returns-in_err-check_room-clause-bare : goal.returns-in_err-check_room-clause-bare
returns-in_err-check_room-clause-bare g c y h o = committed.quiet_bare (g.D.Disk.disk c.args.self.now.disk) y h c.args.self.now.inner o.inner

pub returns-in-Err-clause-stays_open : goal.returns-in-Err-clause-stays_open
returns-in-Err-clause-stays_open g c is told x h was =
    let none : c.in-Err.error ≡ error.NoMemory = cc is in
    subst (λ s. IsOpenSite g.D.Disk.disk told x h s) (sym (c.note.ensures.goes_on (λ fault e. absurd (cc (e, none))))) (record { fault = was.fault; inner = (c.in-Err.ensures.goes_on (ap Err none)).stays_open told x h was.inner })

pub returns-in-Err-clause-stands : goal.returns-in-Err-clause-stands
returns-in-Err-clause-stands g c y h o =
    subst (λ d. IfSome (g.D.Disk.disk d).content (λ f. IsSite f (with_sequence y (take h y.sequence)))) (sym c.note.ensures.disk)
    (committed.commit_stands (g.D.Disk.disk c.args.self.now.disk) (g.D.Disk.disk c.log_all_touched.new.disk) y h (g.met.D.Disk.lawful c.log_all_touched.new.disk) (c.log_all_touched.ensures.moments.any_moment y h o.inner))

pub returns-in-Ok-clause-done : goal.returns-in-Ok-clause-done
returns-in-Ok-clause-done g c told y h is = record {
  fault = is.fault;
  inner = subst (λ (s : Option Stamp). IsOpen (g.D.Disk.disk c.enter.new.disk) told (with_entry s (transaction_value c.args.t.now) y) h c.enter.new.self) c.log_all_touched.ensures.same.stamp
      (c.in-Ok.ensures.done told y h (c.in_default-log_all_touched.ensures.logged.stays_open told y h is.inner));
}

pub returns-in-Ok-clause-appended : goal.returns-in-Ok-clause-appended
returns-in-Ok-clause-appended g c =
    logging.appends_then (g.D.Disk.disk c.args.self.now.disk) (g.D.Disk.disk c.log_all_touched.new.disk) (g.D.Disk.disk c.enter.new.disk) c.args.self.now.inner c.log_all_touched.new.self c.enter.new.self (transaction_value c.args.t.now)
    c.in_default-log_all_touched.ensures.logged c.in-Ok.ensures.appended

pub returns-in-Ok-clause-any_moment : goal.returns-in-Ok-clause-any_moment
returns-in-Ok-clause-any_moment g c y h o =
    then_more (g.D.Disk.disk c.args.self.now.disk) (g.D.Disk.disk c.log_all_touched.new.disk) (g.D.Disk.disk c.enter.new.disk) (λ f. IsSite f (with_sequence y (take h y.sequence))) (λ f. IsSite f (with_sequence y (take h y.sequence)))
    (c.log_all_touched.ensures.moments.any_moment y h o.inner) (c.enter.ensures.any_moment y h (c.in_default-log_all_touched.ensures.logged.stays_open true y h o.inner)) (λ f q. q)

pub returns-in-Ok-clause-bare : goal.returns-in-Ok-clause-bare
returns-in-Ok-clause-bare g c y h o =
    then_more (g.D.Disk.disk c.args.self.now.disk) (g.D.Disk.disk c.log_all_touched.new.disk) (g.D.Disk.disk c.enter.new.disk) (λ f. HasLeft f (with_sequence y (take h y.sequence)) NO_LEFTOVER) (λ f. HasLeft f (with_sequence y (take h y.sequence)) NO_LEFTOVER)
    (c.log_all_touched.ensures.moments.bare y h o.inner) (c.enter.ensures.bare y h (c.in_default-log_all_touched.ensures.logged.stays_open true y h o.inner)) (λ f q. q)

pub returns-in-Ok-clause-stands : goal.returns-in-Ok-clause-stands
returns-in-Ok-clause-stands g c y h o = c.enter.ensures.stands y h (c.in_default-log_all_touched.ensures.logged.stays_open true y h o.inner)

pub returns-in-Err-enter-clause-stays_open : goal.returns-in-Err-enter-clause-stays_open
returns-in-Err-enter-clause-stays_open g c is told x h was =
    let none : c.in-Err-enter.error ≡ error.NoMemory = cc is in
    subst (λ s. IsOpenSite g.D.Disk.disk told x h s) (sym (c.note-in-Err-enter.ensures.goes_on (λ fault e. absurd (cc (e, none)))))
    (record { fault = was.fault; inner = c.in-Err-enter.ensures.stays_open is told x h (c.in_default-log_all_touched.ensures.logged.stays_open told x h was.inner) })

pub returns-in-Err-enter-clause-any_moment : goal.returns-in-Err-enter-clause-any_moment
returns-in-Err-enter-clause-any_moment g c y h o =
    subst (λ d. AtEachMoment (g.D.Disk.disk c.args.self.now.disk) (g.D.Disk.disk d) (λ f. IsSite f (with_sequence y (take h y.sequence)))) (sym c.note-in-Err-enter.ensures.disk)
    (then_more (g.D.Disk.disk c.args.self.now.disk) (g.D.Disk.disk c.log_all_touched.new.disk) (g.D.Disk.disk c.enter.new.disk) (λ f. IsSite f (with_sequence y (take h y.sequence))) (λ f. IsSite f (with_sequence y (take h y.sequence)))
    (c.log_all_touched.ensures.moments.any_moment y h o.inner) (c.enter.ensures.any_moment y h (c.in_default-log_all_touched.ensures.logged.stays_open true y h o.inner)) (λ f q. q))

pub returns-in-Err-enter-clause-bare : goal.returns-in-Err-enter-clause-bare
returns-in-Err-enter-clause-bare g c y h o =
    subst (λ d. AtEachMoment (g.D.Disk.disk c.args.self.now.disk) (g.D.Disk.disk d) (λ f. HasLeft f (with_sequence y (take h y.sequence)) NO_LEFTOVER)) (sym c.note-in-Err-enter.ensures.disk)
    (then_more (g.D.Disk.disk c.args.self.now.disk) (g.D.Disk.disk c.log_all_touched.new.disk) (g.D.Disk.disk c.enter.new.disk) (λ f. HasLeft f (with_sequence y (take h y.sequence)) NO_LEFTOVER) (λ f. HasLeft f (with_sequence y (take h y.sequence)) NO_LEFTOVER)
    (c.log_all_touched.ensures.moments.bare y h o.inner) (c.enter.ensures.bare y h (c.in_default-log_all_touched.ensures.logged.stays_open true y h o.inner)) (λ f q. q))

pub returns-in-Err-enter-clause-stands : goal.returns-in-Err-enter-clause-stands
returns-in-Err-enter-clause-stands g c y h o =
    subst (λ d. IfSome (g.D.Disk.disk d).content (λ f. IsSite f (with_sequence y (take h y.sequence)))) (sym c.note-in-Err-enter.ensures.disk)
    (c.enter.ensures.stands y h (c.in_default-log_all_touched.ensures.logged.stays_open true y h o.inner))

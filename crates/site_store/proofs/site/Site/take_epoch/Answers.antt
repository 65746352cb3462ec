use Rattle.site_store.proofs.site.Site.take_epoch.Goals as goal

pub returns-in-Ok-clause-done : goal.returns-in-Ok-clause-done
returns-in-Ok-clause-done g c told x is = record { fault = is.fault; inner = c.in-Ok.ensures.done told x is.inner }

pub returns-in-Ok-clause-none_needs : goal.returns-in-Ok-clause-none_needs
returns-in-Ok-clause-none_needs g c x is f now = c.in-Ok.ensures.none_needs x is.inner f now

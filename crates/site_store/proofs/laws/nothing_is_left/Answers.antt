use Rattle.std.proofs.Common.{refl}
use Rattle.site_store.proofs.Emptied.{none_left}
use Rattle.site_store.proofs.laws.nothing_is_left.Goals as goal

pub returns : goal.returns
returns g c = λ x h f is now. none_left (g.D.Disk.disk c.args.site.now.disk) x h c.args.site.now.inner f (is.inner.kept refl) now

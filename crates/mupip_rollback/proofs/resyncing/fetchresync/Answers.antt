use Rattle.std.proofs.Common.{◌-◌, length, min, IfOk, IfSome, ℕ, subst}
use Rattle.disk_defs.specs.Disk.{AtEachMoment}
use Rattle.site_defs.specs.Contents.{Contents, Leftover}
use Rattle.site_defs.specs.Rolling.{rolled, MayRollBack}
use Rattle.site_defs.specs.Stands.{IsSite, HasLeft}
use Rattle.site_store.specs.Opening.{EachStands}
use Rattle.mupip_rollback.specs.Rolling.{StandsFor, MayBeRolledBack, MayBeRolledBackWith}
use Rattle.mupip_rollback.proofs.resyncing.fetchresync.Goals as goal

pub returns-clause-told : goal.returns-clause-told
returns-clause-told g c =
    let old = g.D.Disk.disk c.args.disk.now in
    subst (λ (n : ℕ). IfOk c.rollback.result (λ x. IfSome old.content (λ files. (u : Contents) (left : Leftover) → IsSite files u → HasLeft files u left → EachStands old → StandsFor (g.D.Disk.disk c.rollback.new.disk) (rolled (min (n - 1) (length u.sequence)) left.broken u))))
    c.first_to_go.ensures c.rollback.ensures.told

pub returns-clause-any_moment : goal.returns-clause-any_moment
returns-clause-any_moment g c =
    let old = g.D.Disk.disk c.args.disk.now in
    subst (λ (n : ℕ). IfSome old.content (λ files. (u : Contents) (left : Leftover) → IsSite files u → HasLeft files u left → EachStands old → AtEachMoment old (g.D.Disk.disk c.rollback.new.disk) (MayBeRolledBack old (n - 1) left.broken)))
    c.first_to_go.ensures c.rollback.ensures.any_moment

pub returns-clause-left : goal.returns-clause-left
returns-clause-left g c =
    let old = g.D.Disk.disk c.args.disk.now in
    subst (λ (n : ℕ). IfSome old.content (λ files. (u : Contents) → IsSite files u → EachStands old → AtEachMoment old (g.D.Disk.disk c.rollback.new.disk) (MayBeRolledBackWith old (n - 1))))
    c.first_to_go.ensures c.rollback.ensures.left

pub returns-clause-stands : goal.returns-clause-stands
returns-clause-stands g c =
    let old = g.D.Disk.disk c.args.disk.now in
    subst (λ (n : ℕ). IfSome old.content (λ files. (u : Contents) (left : Leftover) → IsSite files u → HasLeft files u left → EachStands old → IfSome (g.D.Disk.disk c.rollback.new.disk).content (λ now. (x : Contents) × MayRollBack (min (n - 1) (length u.sequence)) left.broken u x × IsSite now x)))
    c.first_to_go.ensures c.rollback.ensures.stands

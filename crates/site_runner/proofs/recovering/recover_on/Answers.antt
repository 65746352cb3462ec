use Rattle.std.proofs.Common.{Bool, IfOk, IfSome, sym, subst}
use Rattle.disk_defs.specs.Disk.{View, AtEachMoment}
use Rattle.site_defs.specs.Contents.{Contents, Leftover}
use Rattle.site_defs.specs.Forward.{recovered_as}
use Rattle.site_defs.specs.Stands.{IsSite, HasLeft}
use Rattle.site_store.specs.Opening.{EachStands}
use Rattle.mupip_rollback.specs.Rolling.{StandsFor, MayBeRecoveredAs, MayBeRecoveredWithAs}
use Rattle.site_runner.proofs.recovering.recover_on.Goals as goal

-- what the clauses say, anew or not

abbrev Stands : View → View → Bool → Type 0
Stands v w anew = IfSome v.content (λ files. (c : Contents) (left : Leftover) → IsSite files c → HasLeft files c left → EachStands v → StandsFor w (recovered_as anew left.broken c))

abbrev AtMoments : View → View → Bool → Type 0
AtMoments v w anew = IfSome v.content (λ files. (c : Contents) (left : Leftover) → IsSite files c → HasLeft files c left → EachStands v → AtEachMoment v w (MayBeRecoveredAs anew v left.broken))

abbrev AtMomentsSo : View → View → Bool → Type 0
AtMomentsSo v w anew = IfSome v.content (λ files. (c : Contents) → IsSite files c → EachStands v → AtEachMoment v w (MayBeRecoveredWithAs anew v))

pub returns-then-anew-clause-told : goal.returns-then-anew-clause-told
returns-then-anew-clause-told g c =
    subst (λ (b : Bool). IfOk c.recover_forward.result (λ _. Stands (g.D.Disk.disk c.args.disk.now) (g.D.Disk.disk c.recover_forward.new.disk) b)) (sym c.if-anew.true) c.recover_forward.ensures.told

pub returns-then-anew-clause-any_moment : goal.returns-then-anew-clause-any_moment
returns-then-anew-clause-any_moment g c = subst (AtMoments (g.D.Disk.disk c.args.disk.now) (g.D.Disk.disk c.recover_forward.new.disk)) (sym c.if-anew.true) c.recover_forward.ensures.any_moment

pub returns-then-anew-clause-left : goal.returns-then-anew-clause-left
returns-then-anew-clause-left g c = subst (AtMomentsSo (g.D.Disk.disk c.args.disk.now) (g.D.Disk.disk c.recover_forward.new.disk)) (sym c.if-anew.true) c.recover_forward.ensures.left

pub returns-else-anew-clause-told : goal.returns-else-anew-clause-told
returns-else-anew-clause-told g c =
    subst (λ (b : Bool). IfOk c.recover_backward.result (λ _. Stands (g.D.Disk.disk c.args.disk.now) (g.D.Disk.disk c.recover_backward.new.disk) b)) (sym c.if-anew.false) c.recover_backward.ensures.told

pub returns-else-anew-clause-any_moment : goal.returns-else-anew-clause-any_moment
returns-else-anew-clause-any_moment g c = subst (AtMoments (g.D.Disk.disk c.args.disk.now) (g.D.Disk.disk c.recover_backward.new.disk)) (sym c.if-anew.false) c.recover_backward.ensures.any_moment

pub returns-else-anew-clause-left : goal.returns-else-anew-clause-left
returns-else-anew-clause-left g c = subst (AtMomentsSo (g.D.Disk.disk c.args.disk.now) (g.D.Disk.disk c.recover_backward.new.disk)) (sym c.if-anew.false) c.recover_backward.ensures.left

use Rattle.std.proofs.Common.{List, Option, IfSome, subst}
use Rattle.journal_defs.specs.Numbers.{INSTANCE}
use Rattle.journal_defs.specs.Instance.{InstanceRecord}
use Rattle.journal_defs.specs.Stands.{IsInstance}
use Rattle.site_defs.specs.Contents.{Contents}
use Rattle.site_defs.specs.Stands.{Stands}
use Rattle.site_store.specs.Finding.{IsFound, IsLaidOut}
use Rattle.site_making.specs.Finding.{layout_in}
use Rattle.site_making.specs.declared.finding.FoundSite.{FoundSite}
use Rattle.site_making.proofs.finding.inspect.Goals as goal

pub returns-in-Some-clause-found : goal.returns-in-Some-clause-found
returns-in-Some-clause-found g c =
    let o = (g.D.Disk.disk c.args.disk.now).content in
    subst (λ (f : Option FoundSite). IfSome o (λ files. (x : Contents) → Stands files x → IsFound x (layout_in f))) c.in-Some.is c.in_ok-found.ensures.found

pub returns-in-Some-clause-exact : goal.returns-in-Some-clause-exact
returns-in-Some-clause-exact g c =
    let o = (g.D.Disk.disk c.args.disk.now).content in
    subst (λ (f : Option FoundSite). IfSome o (λ files. (rs : List InstanceRecord) → IsInstance (files INSTANCE) rs → IsLaidOut rs (layout_in f))) c.in-Some.is c.in_ok-found.ensures.exact

pub returns-in-Some-clause-holds : goal.returns-in-Some-clause-holds
returns-in-Some-clause-holds g c =
    let o = (g.D.Disk.disk c.args.disk.now).content in
    subst (λ (f : Option FoundSite). IfSome o (λ files. (rs : List InstanceRecord) × IsInstance (files INSTANCE) rs × IsLaidOut rs (layout_in f))) c.in-Some.is c.in_ok-found.ensures.holds

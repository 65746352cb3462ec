use Rattle.std.proofs.Common.{◌≡◌, map, subst, IfSome}
use Rattle.gvn_model.specs.Regions.{named_region}
use Rattle.disk_defs.specs.Disk.{AtEachMoment}
use Rattle.disk_defs.specs.Frames.{Only}
use Rattle.disk_defs.proofs.Frames.{others_then}
use Rattle.journal_defs.specs.Numbers.{INSTANCE}
use Rattle.journal_defs.specs.Instance as defs
use Rattle.instance_file.specs.Instance.{MayCreate}
use Rattle.instance_file.proofs.Making.{told_creates, created}
use Rattle.instance_file.proofs.instance.Instance.create.Goals as goal

pub returns-in_err-name-clause-any_moment : goal.returns-in_err-name-clause-any_moment
returns-in_err-name-clause-any_moment g c =
    let view = g.D.Disk.disk in
    told_creates (view c.args.disk.now) (view c.empty.new.disk) (defs.Create c.args.name.now (map named_region c.args.regions.now)) c.empty.ensures.any_moment

pub returns-in_err-append-clause-any_moment : goal.returns-in_err-append-clause-any_moment
returns-in_err-append-clause-any_moment g c =
    let view = g.D.Disk.disk in
    let u = view c.args.disk.now in
    let w = view c.append.new.disk in
    let same : defs.Create c.in_ok-name.name (map named_region c.in_ok-regions.regions) ≡ defs.Create c.args.name.now (map named_region c.args.regions.now) =
    λ i. defs.Create (c.in_ok-name.ensures i) (map named_region (c.in_ok-regions.ensures i)) in
    subst (λ (x : defs.InstanceRecord). IfSome u.content (λ files. AtEachMoment u w (MayCreate u x))) same
    (created u (view c.empty.new.disk) w c.in_ok-instance.instance (defs.Create c.in_ok-name.name (map named_region c.in_ok-regions.regions)) (g.met.D.Disk.lawful c.empty.new.disk) c.empty.ensures.any_moment c.in_ok-instance.ensures.state c.append.ensures.any_moment)

pub returns-clause-any_moment : goal.returns-clause-any_moment
returns-clause-any_moment g c =
    let view = g.D.Disk.disk in
    let u = view c.args.disk.now in
    let w = view c.append.new.disk in
    let same : defs.Create c.in_ok-name.name (map named_region c.in_ok-regions.regions) ≡ defs.Create c.args.name.now (map named_region c.args.regions.now) =
    λ i. defs.Create (c.in_ok-name.ensures i) (map named_region (c.in_ok-regions.ensures i)) in
    subst (λ (x : defs.InstanceRecord). IfSome u.content (λ files. AtEachMoment u w (MayCreate u x))) same
    (created u (view c.empty.new.disk) w c.in_ok-instance.instance (defs.Create c.in_ok-name.name (map named_region c.in_ok-regions.regions)) (g.met.D.Disk.lawful c.empty.new.disk) c.empty.ensures.any_moment c.in_ok-instance.ensures.state c.append.ensures.any_moment)

pub returns-clause-frame : goal.returns-clause-frame
returns-clause-frame g c =
    let view = g.D.Disk.disk in
    others_then (Only INSTANCE) (view c.args.disk.now) (view c.empty.new.disk) (view c.append.new.disk) c.empty.ensures.frame c.append.ensures.frame

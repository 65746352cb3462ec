use Rattle.std.proofs.Common.{◌≡◌, ◌∷◌, [], map, ◌∙◌, ap, subst, IfSome, List, ℕ, Bool}
use Rattle.global_defs.specs.Region.{Region}
use Rattle.gvn_model.specs.Regions.{named_region}
use Rattle.disk_defs.specs.Disk.{AtEachMoment}
use Rattle.journal_defs.specs.Instance as records
use Rattle.journal_defs.specs.Instance.{InstanceRecord}
use Rattle.instance_file.specs.Instance.{HasRecords, MayCreate}
use Rattle.site_store.proofs.Made.{first, may_make, reads_made, images_made, stands_made}
use Rattle.site_store.proofs.site.Site.create.Goals as goal

pub returns-in-Ok-clause-reads : goal.returns-in-Ok-clause-reads
returns-in-Ok-clause-reads g c =
    let view = g.D.Disk.disk in
    let u = view c.args.disk.now in
    let v = view c.sync_instance.new.disk in
    let w = view c.create.new.disk in
    let name = c.args.name.now in
    let regions = c.args.regions.now in
    let lawful_v = g.met.D.Disk.lawful c.sync_instance.new.disk in
    let lawful_w = g.met.D.Disk.lawful c.create.new.disk in
    let same : records.Create name (map named_region c.as_slice.result.now) ≡ first name regions = ap (λ (l : List (List ℕ × Bool)). records.Create name (map named_region l)) c.as_slice.ensures ∙ ap (λ (l : List Region). records.Create name l) c.in_ok-regions.ensures in
    reads_made u v w name regions lawful_v lawful_w c.sync_instance.ensures.any_moment c.sync_instance.ensures.content c.in-Ok.field-0 c.create.ensures.frame (subst (λ (x : InstanceRecord). IfSome v.content (λ _. HasRecords w c.in-Ok.field-0 (x ∷ []))) same c.in-Ok.ensures.state)

pub returns-in-Ok-clause-images : goal.returns-in-Ok-clause-images
returns-in-Ok-clause-images g c =
    let view = g.D.Disk.disk in
    let u = view c.args.disk.now in
    let v = view c.sync_instance.new.disk in
    let w = view c.create.new.disk in
    let name = c.args.name.now in
    let regions = c.args.regions.now in
    let lawful_v = g.met.D.Disk.lawful c.sync_instance.new.disk in
    let lawful_w = g.met.D.Disk.lawful c.create.new.disk in
    let same : records.Create name (map named_region c.as_slice.result.now) ≡ first name regions = ap (λ (l : List (List ℕ × Bool)). records.Create name (map named_region l)) c.as_slice.ensures ∙ ap (λ (l : List Region). records.Create name l) c.in_ok-regions.ensures in
    images_made u v w name regions lawful_v lawful_w c.sync_instance.ensures.any_moment c.sync_instance.ensures.content c.in-Ok.field-0 c.create.ensures.frame (subst (λ (x : InstanceRecord). IfSome v.content (λ _. HasRecords w c.in-Ok.field-0 (x ∷ []))) same c.in-Ok.ensures.state)

pub returns-in-Ok-clause-any_moment : goal.returns-in-Ok-clause-any_moment
returns-in-Ok-clause-any_moment g c =
    let view = g.D.Disk.disk in
    let u = view c.args.disk.now in
    let v = view c.sync_instance.new.disk in
    let w = view c.create.new.disk in
    let name = c.args.name.now in
    let regions = c.args.regions.now in
    let lawful_v = g.met.D.Disk.lawful c.sync_instance.new.disk in
    let lawful_w = g.met.D.Disk.lawful c.create.new.disk in
    let same : records.Create name (map named_region c.as_slice.result.now) ≡ first name regions = ap (λ (l : List (List ℕ × Bool)). records.Create name (map named_region l)) c.as_slice.ensures ∙ ap (λ (l : List Region). records.Create name l) c.in_ok-regions.ensures in
    may_make u v w name regions lawful_v lawful_w c.sync_instance.ensures.any_moment c.sync_instance.ensures.content (subst (λ (x : InstanceRecord). IfSome v.content (λ _. AtEachMoment v w (MayCreate v x))) same c.create.ensures.any_moment)

pub returns-in-Ok-clause-stands : goal.returns-in-Ok-clause-stands
returns-in-Ok-clause-stands g c =
    let view = g.D.Disk.disk in
    let u = view c.args.disk.now in
    let v = view c.sync_instance.new.disk in
    let w = view c.create.new.disk in
    let name = c.args.name.now in
    let regions = c.args.regions.now in
    let lawful_v = g.met.D.Disk.lawful c.sync_instance.new.disk in
    let lawful_w = g.met.D.Disk.lawful c.create.new.disk in
    let same : records.Create name (map named_region c.as_slice.result.now) ≡ first name regions = ap (λ (l : List (List ℕ × Bool)). records.Create name (map named_region l)) c.as_slice.ensures ∙ ap (λ (l : List Region). records.Create name l) c.in_ok-regions.ensures in
    stands_made u v w name regions lawful_v lawful_w c.sync_instance.ensures.any_moment c.sync_instance.ensures.content c.create.ensures.frame c.in_ok-sync_instance.ensures.durable (subst (λ (x : InstanceRecord). IfSome v.content (λ _. AtEachMoment v w (MayCreate v x))) same c.create.ensures.any_moment)

pub returns-clause-any_moment : goal.returns-clause-any_moment
returns-clause-any_moment g c =
    let view = g.D.Disk.disk in
    let u = view c.args.disk.now in
    let v = view c.sync_instance.new.disk in
    let w = view c.create.new.disk in
    let name = c.args.name.now in
    let regions = c.args.regions.now in
    let lawful_v = g.met.D.Disk.lawful c.sync_instance.new.disk in
    let lawful_w = g.met.D.Disk.lawful c.create.new.disk in
    let same : records.Create name (map named_region c.as_slice.result.now) ≡ first name regions = ap (λ (l : List (List ℕ × Bool)). records.Create name (map named_region l)) c.as_slice.ensures ∙ ap (λ (l : List Region). records.Create name l) c.in_ok-regions.ensures in
    may_make u v w name regions lawful_v lawful_w c.sync_instance.ensures.any_moment c.sync_instance.ensures.content (subst (λ (x : InstanceRecord). IfSome v.content (λ _. AtEachMoment v w (MayCreate v x))) same c.create.ensures.any_moment)

pub returns-clause-stands : goal.returns-clause-stands
returns-clause-stands g c =
    let view = g.D.Disk.disk in
    let u = view c.args.disk.now in
    let v = view c.sync_instance.new.disk in
    let w = view c.create.new.disk in
    let name = c.args.name.now in
    let regions = c.args.regions.now in
    let lawful_v = g.met.D.Disk.lawful c.sync_instance.new.disk in
    let lawful_w = g.met.D.Disk.lawful c.create.new.disk in
    let same : records.Create name (map named_region c.as_slice.result.now) ≡ first name regions = ap (λ (l : List (List ℕ × Bool)). records.Create name (map named_region l)) c.as_slice.ensures ∙ ap (λ (l : List Region). records.Create name l) c.in_ok-regions.ensures in
    stands_made u v w name regions lawful_v lawful_w c.sync_instance.ensures.any_moment c.sync_instance.ensures.content c.create.ensures.frame c.in_ok-sync_instance.ensures.durable (subst (λ (x : InstanceRecord). IfSome v.content (λ _. AtEachMoment v w (MayCreate v x))) same c.create.ensures.any_moment)

use Rattle.std.proofs.Common.{◌≡◌, ◌⊎◌, inl, List, [], Option, Some, None, Err, ap, sym, subst}
use Rattle.std.specs.Prelude.{IfSome}
use Rattle.std.proofs.lemmas.Result.{err_from_is_err_and}
use Rattle.disk_defs.specs.Disk.{Files, View, Image, IsDurable}
use Rattle.disk_defs.specs.Gates.{records}
use Rattle.disk_defs.proofs.Told.{weaker_told, told_at}
use Rattle.journal_defs.specs.Numbers.{INSTANCE}
use Rattle.journal_defs.specs.Instance.{InstanceRecord}
use Rattle.journal_defs.specs.Stands.{IsInstance}
use Rattle.site_defs.specs.Contents.{Contents}
use Rattle.site_defs.specs.Stands.{Stands}
use Rattle.site_store.specs.Finding.{IsLaidOut, IsFound}
use Rattle.site_store.specs.declared.layout.Layout.{Layout}
use Rattle.site_store.specs.declared.error.SiteError.TheVariants.{NotAFile}
use Rattle.site_defs.specs.Outside.{IsNoInstance, HasNoDirectory}
use Rattle.site_store.proofs.Errors.{file_was}
use Rattle.site_store.proofs.Found.{region_bounds, stands_instance, exact_by, held_by, none_written, some_written, found_by, alike_by, no_bodies, not_laid}
use Rattle.site_making.proofs.finding.find.Goals as goal

pub returns-in_err-log-clause-outside : goal.returns-in_err-log-clause-outside
returns-in_err-log-clause-outside g c =
    let p = err_from_is_err_and c.from_residual.result c.from_residual.ensures.1 in
    let o = (g.D.Disk.disk c.args.disk.now).content in
    rw (p.1, p.2) (λ file offset is.
    weaker_told o (λ files. (rs : List InstanceRecord) → IsInstance (files INSTANCE) rs → ⊥) (λ files. (x : Contents) → Stands files x → ⊥)
    (c.in_err-log.ensures.outside file offset (file_was c.in_err-log.field-0.0 file offset is)) (λ files none x stands. none x.instance (stands_instance files x stands)))

pub returns-in_err-log-clause-place : goal.returns-in_err-log-clause-place
returns-in_err-log-clause-place g c =
    let p = err_from_is_err_and c.from_residual.result c.from_residual.ensures.1 in
    let o = (g.D.Disk.disk c.args.disk.now).content in
    rw (p.1, p.2) (λ file offset is.
    weaker_told o (λ files. IsNoInstance files file offset) (λ files. IsNoInstance files file offset ⊎ HasNoDirectory files file offset)
    (c.in_err-log.ensures.place file offset (file_was c.in_err-log.field-0.0 file offset is)) (λ files out. inl out))

pub returns-in_err-layout-clause-outside : goal.returns-in_err-layout-clause-outside
returns-in_err-layout-clause-outside g c =
    let o = (g.D.Disk.disk c.args.disk.now).content in
    let rs = c.in_ok-log.log.records in
    let p = err_from_is_err_and c.from_residual-in_err-layout.result c.from_residual-in_err-layout.ensures.1 in
    rw (p.1, p.2) (λ file offset is.
    let same : c.in_err-layout.field-0.0 ≡ NotAFile file offset = cc is in
    let given = c.in_err-layout.ensures.outside file offset (ap Err same) in
    weaker_told o (λ files. IsInstance (files INSTANCE) rs) (λ files. (x : Contents) → Stands files x → ⊥) c.in_ok-log.ensures.reads
    (λ files own x stands. not_laid files x rs own given.0 given.1 stands))

pub returns-in_err-log-clause-written : goal.returns-in_err-log-clause-written
returns-in_err-log-clause-written g c =
    let p = err_from_is_err_and c.from_residual.result c.from_residual.ensures.1 in
    let o = (g.D.Disk.disk c.args.disk.now).content in
    rw (p.1, p.2) (λ file offset is. none_written o (c.in_err-log.ensures.outside file offset (file_was c.in_err-log.field-0.0 file offset is)))

pub returns-in_err-layout-clause-written : goal.returns-in_err-layout-clause-written
returns-in_err-layout-clause-written g c =
    let o = (g.D.Disk.disk c.args.disk.now).content in
    let rs = c.in_ok-log.log.records in
    let p = err_from_is_err_and c.from_residual-in_err-layout.result c.from_residual-in_err-layout.ensures.1 in
    rw (p.1, p.2) (λ file offset is.
    let same : c.in_err-layout.field-0.0 ≡ NotAFile file offset = cc is in
    let given = c.in_err-layout.ensures.outside file offset (ap Err same) in
    some_written o rs given.0 c.in_ok-log.ensures.reads)

pub returns-in_default-clause-found : goal.returns-in_default-clause-found
returns-in_default-clause-found g c =
    let o = (g.D.Disk.disk c.args.disk.now).content in
    let rs = c.in_ok-log.log.records in
    let own : IsLaidOut rs None = subst (λ (f : Option Layout). IsLaidOut rs f) c.in_default.is c.in_ok-layout.ensures.layout in
    weaker_told o (λ files. IsInstance (files INSTANCE) rs) (λ files. (x : Contents) → Stands files x → IsFound x None) c.in_ok-log.ensures.reads
    (λ files is x stands. found_by files x rs None is own stands)

pub returns-clause-found : goal.returns-clause-found
returns-clause-found g c =
    let o = (g.D.Disk.disk c.args.disk.now).content in
    let rs = c.in_ok-log.log.records in
    let found = c.in-Some.layout in
    let own : IsLaidOut rs (Some found) = subst (λ (f : Option Layout). IsLaidOut rs f) c.in-Some.is c.in_ok-layout.ensures.layout in
    weaker_told o (λ files. IsInstance (files INSTANCE) rs) (λ files. (x : Contents) → Stands files x → IsFound x (Some found)) c.in_ok-log.ensures.reads
    (λ files is x stands. found_by files x rs (Some found) is own stands)

pub returns-in_default-clause-exact : goal.returns-in_default-clause-exact
returns-in_default-clause-exact g c =
    exact_by (g.D.Disk.disk c.args.disk.now).content c.in_ok-log.log.records None c.in_ok-log.ensures.reads
    (subst (λ (f : Option Layout). IsLaidOut c.in_ok-log.log.records f) c.in_default.is c.in_ok-layout.ensures.layout)

pub returns-clause-exact : goal.returns-clause-exact
returns-clause-exact g c =
    exact_by (g.D.Disk.disk c.args.disk.now).content c.in_ok-log.log.records (Some c.in-Some.layout) c.in_ok-log.ensures.reads
    (subst (λ (f : Option Layout). IsLaidOut c.in_ok-log.log.records f) c.in-Some.is c.in_ok-layout.ensures.layout)

pub returns-in_default-clause-holds : goal.returns-in_default-clause-holds
returns-in_default-clause-holds g c =
    held_by (g.D.Disk.disk c.args.disk.now).content c.in_ok-log.log.records None c.in_ok-log.ensures.reads
    (subst (λ (f : Option Layout). IsLaidOut c.in_ok-log.log.records f) c.in_default.is c.in_ok-layout.ensures.layout)

pub returns-clause-holds : goal.returns-clause-holds
returns-clause-holds g c =
    held_by (g.D.Disk.disk c.args.disk.now).content c.in_ok-log.log.records (Some c.in-Some.layout) c.in_ok-log.ensures.reads
    (subst (λ (f : Option Layout). IsLaidOut c.in_ok-log.log.records f) c.in-Some.is c.in_ok-layout.ensures.layout)

pub returns-clause-told : goal.returns-clause-told
returns-clause-told g c =
    let view = g.D.Disk.disk in
    let u = view c.args.disk.now in
    let v = view c.read_instance.new.disk in
    let rs = c.in_ok-log.log.records in
    let found = c.in-Some.layout in
    let same : v.content ≡ u.content = c.in_ok-log.ensures.content in
    let own : IsLaidOut rs (Some found) = subst (λ (f : Option Layout). IsLaidOut rs f) c.in-Some.is c.in_ok-layout.ensures.layout in
    record {
      told = told_at v.content u.content (λ files. IsInstance (files INSTANCE) rs) (sym same) c.in_ok-log.ensures.reads;
      durable = told_at v.content u.content (λ files. IsDurable v INSTANCE (files INSTANCE)) (sym same) c.in_ok-log.ensures.durable;
      layout = own.1;
      few = (region_bounds rs c.in_ok-log.ensures.form c.in_ok-log.ensures.order.ordered.create own.0).1;
    }

alike_told : (v : View) (o : Option Files) → IfSome o (λ files. IsDurable v INSTANCE (files INSTANCE)) → IfSome o (λ files. (x y : Contents) (f : Files) → Stands files x → Image v f → Stands f y → y.instance ≡ x.instance)
alike_told v o durable = weaker_told o (λ files. IsDurable v INSTANCE (files INSTANCE)) (λ files. (x y : Contents) (f : Files) → Stands files x → Image v f → Stands f y → y.instance ≡ x.instance) durable
    (λ files kept x y f here image there. alike_by files f x y (kept f image) here there)

pub returns-clause-alike : goal.returns-clause-alike
returns-clause-alike g c = alike_told (g.D.Disk.disk c.read_instance.new.disk) (g.D.Disk.disk c.args.disk.now).content c.in_ok-log.ensures.durable

pub returns-in_default-clause-alike : goal.returns-in_default-clause-alike
returns-in_default-clause-alike g c = alike_told (g.D.Disk.disk c.read_instance.new.disk) (g.D.Disk.disk c.args.disk.now).content c.in_ok-log.ensures.durable

pub returns-in_default-clause-empty : goal.returns-in_default-clause-empty
returns-in_default-clause-empty g c is =
    let view = g.D.Disk.disk in
    let rs = c.in_ok-log.log.records in
    let none : rs ≡ [] = subst (λ (f : Option Layout). IsLaidOut rs f) c.in_default.is c.in_ok-layout.ensures.layout in
    told_at (view c.read_instance.new.disk).content (view c.args.disk.now).content (λ files. records (files INSTANCE) ≡ Some []) (sym c.in_ok-log.ensures.content)
    (weaker_told (view c.args.disk.now).content (λ files. IsInstance (files INSTANCE) rs) (λ files. records (files INSTANCE) ≡ Some []) c.in_ok-log.ensures.reads
    (λ files is. no_bodies (files INSTANCE) (subst (λ (l : List InstanceRecord). IsInstance (files INSTANCE) l) none is)))

use Rattle.std.proofs.Common.{◌++◌, ◌∷◌, [], IfSome, refl, arith}
use Rattle.std.proofs.lemmas.Result.{IfOk-weaker}
use Rattle.disk_defs.specs.Disk.{Files, View, Image, AtEachMoment}
use Rattle.disk_defs.proofs.Moments.{started}
use Rattle.journal_defs.specs.Numbers.{INSTANCE}
use Rattle.journal_defs.specs.Instance.{pattern_record}
use Rattle.journal_defs.specs.Stands.{IsInstance}
use Rattle.site_defs.specs.Contents.{Contents}
use Rattle.site_defs.specs.Opening.{with_pattern}
use Rattle.site_defs.specs.Stands.{IsSite}
use Rattle.site_store.specs.Opening.{EachStands}
use Rattle.site_making.proofs.Mapped.{pattern_form, map_moments, map_stands, map_reads, map_images}
use Rattle.site_making.proofs.mapping.map_logged.Goals as goal

-- no call came between
quiet_now : (v : View) → AtEachMoment v v (Image v)
quiet_now v = started v (Image v) (λ f image. image)

pub append_pattern-requires-clause-form : goal.append_pattern-requires-clause-form
append_pattern-requires-clause-form g c = pattern_form c.args.region c.args.pattern.now (omega (arith, c.requires.few, c.requires.region)) c.requires.form

pub returns-clause-reads : goal.returns-clause-reads
returns-clause-reads g c =
    let view = g.D.Disk.disk in
    let v = view c.args.disk.now in
    let w = view c.append_pattern.new.disk in
    let rs = c.args.log.records in
    let region = c.args.region in
    let text = c.args.pattern.now in
    IfOk-weaker c.append_pattern.result (λ _. IfSome v.content (λ _. IfSome w.content (λ now. IsInstance (now INSTANCE) (rs ++ pattern_record region text ∷ []))))
    (λ _. IfSome v.content (λ files. (x : Contents) → IsSite files x → IfSome w.content (λ now. IsSite now (with_pattern region text x))))
    (λ done h. map_reads v v w rs region text c.requires.region c.requires.undrawn (g.met.D.Disk.lawful c.args.disk.now) (g.met.D.Disk.lawful c.append_pattern.new.disk) (quiet_now v) refl c.requires.told c.requires.durable c.append_pattern.ensures.frame h) c.append_pattern.ensures.reads

pub returns-clause-images : goal.returns-clause-images
returns-clause-images g c =
    let view = g.D.Disk.disk in
    let v = view c.args.disk.now in
    let w = view c.append_pattern.new.disk in
    let rs = c.args.log.records in
    let region = c.args.region in
    let text = c.args.pattern.now in
    IfOk-weaker c.append_pattern.result (λ _. IfSome v.content (λ _. (f : Files) → Image w f → IsInstance (f INSTANCE) (rs ++ pattern_record region text ∷ [])))
    (λ _. IfSome v.content (λ files. (x : Contents) → IsSite files x → EachStands v → (f : Files) → Image w f → IsSite f (with_pattern region text x)))
    (λ done h. map_images v v w rs region text c.requires.region c.requires.undrawn (g.met.D.Disk.lawful c.args.disk.now) (g.met.D.Disk.lawful c.append_pattern.new.disk) (quiet_now v) refl c.requires.told c.requires.durable c.append_pattern.ensures.frame h) c.append_pattern.ensures.images

pub returns-clause-any_moment : goal.returns-clause-any_moment
returns-clause-any_moment g c =
    let view = g.D.Disk.disk in
    let v = view c.args.disk.now in
    map_moments v v (view c.append_pattern.new.disk) c.args.log.records c.args.region c.args.pattern.now c.requires.region c.requires.undrawn (g.met.D.Disk.lawful c.args.disk.now) (g.met.D.Disk.lawful c.append_pattern.new.disk) (quiet_now v) refl c.requires.told c.requires.durable c.append_pattern.ensures.frame c.append_pattern.ensures.any_moment

pub returns-clause-stands : goal.returns-clause-stands
returns-clause-stands g c =
    let view = g.D.Disk.disk in
    let v = view c.args.disk.now in
    map_stands v v (view c.append_pattern.new.disk) c.args.log.records c.args.region c.args.pattern.now c.requires.region c.requires.undrawn (g.met.D.Disk.lawful c.args.disk.now) (g.met.D.Disk.lawful c.append_pattern.new.disk) (quiet_now v) refl c.requires.told c.requires.durable c.append_pattern.ensures.frame c.append_pattern.ensures.any_moment

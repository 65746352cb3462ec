use Rattle.std.proofs.Common.{◌≡◌, ◌⊎◌, ◌<◌, inl, inr, ◌++◌, ◌∷◌, [], length, IfSome}
use Rattle.std.proofs.lemmas.Result.{IfOk-weaker}
use Rattle.std.proofs.lemmas.Result.{err_from_is_err_and}
use Rattle.disk_defs.specs.Disk.{Files, Image}
use Rattle.disk_defs.proofs.Told.{weaker_told}
use Rattle.journal_defs.specs.Numbers.{INSTANCE}
use Rattle.journal_defs.specs.Instance.{generation, regions, pattern_record}
use Rattle.journal_defs.specs.Stands.{IsInstance}
use Rattle.site_defs.specs.Contents.{Contents}
use Rattle.site_defs.specs.Opening.{with_pattern}
use Rattle.site_defs.specs.Stands.{IsSite}
use Rattle.site_defs.specs.Outside.{IsNoInstance}
use Rattle.site_making.specs.Mapping.{TakesNoPattern}
use Rattle.site_store.specs.Opening.{EachStands}
use Rattle.site_store.proofs.Errors.{file_was}
use Rattle.site_making.proofs.Mapped.{quiet_told, no_region, map_moments, map_stands, map_reads, map_images}
use Rattle.site_making.proofs.mapping.map.Goals as goal

pub returns-in_err-log-clause-any_moment : goal.returns-in_err-log-clause-any_moment
returns-in_err-log-clause-any_moment g c =
    let view = g.D.Disk.disk in
    quiet_told (view c.args.disk.now) (view c.read_instance.new.disk) c.args.region c.args.pattern.now c.in_err-log.ensures.any_moment

pub returns-then-not-may_map-clause-any_moment : goal.returns-then-not-may_map-clause-any_moment
returns-then-not-may_map-clause-any_moment g c =
    let view = g.D.Disk.disk in
    let u = view c.args.disk.now in
    let v = view c.read_instance.new.disk in
    let rs = c.in_ok-log.log.records in
    let region = c.args.region in
    let text = c.args.pattern.now in
    quiet_told u v region text c.in_ok-log.ensures.any_moment

pub returns-in_err-log-clause-place : goal.returns-in_err-log-clause-place
returns-in_err-log-clause-place g c =
    let o = (g.D.Disk.disk c.args.disk.now).content in
    let p = err_from_is_err_and c.from_residual.result c.from_residual.ensures.1 in
    rw (p.1, p.2) (λ file offset is.
    weaker_told o (λ files. IsNoInstance files file offset) (λ files. IsNoInstance files file offset ⊎ TakesNoPattern files c.args.region file offset)
    (c.in_err-log.ensures.place file offset (file_was c.in_err-log.field-0.0 file offset is)) (λ files out. inl out))

pub returns-then-not-may_map-clause-place : goal.returns-then-not-may_map-clause-place
returns-then-not-may_map-clause-place g c file offset is =
    let o = (g.D.Disk.disk c.args.disk.now).content in
    let rs = c.in_ok-log.log.records in
    let region = c.args.region in
    let none : (region < length (regions rs)) × (generation rs ≡ 0) → ⊥ = λ both.
    let yes = c.may_map.ensures.1 both in
    cc (yes, c.if-not-may_map.true) in
    weaker_told o (λ files. IsInstance (files INSTANCE) rs) (λ files. IsNoInstance files file offset ⊎ TakesNoPattern files region file offset) c.in_ok-log.ensures.reads
    (λ files own. inr (rs, own, none, cc is, cc is))

pub returns-then-not-may_map-clause-outside : goal.returns-then-not-may_map-clause-outside
returns-then-not-may_map-clause-outside g c file offset is =
    let view = g.D.Disk.disk in
    let u = view c.args.disk.now in
    let v = view c.read_instance.new.disk in
    let rs = c.in_ok-log.log.records in
    let region = c.args.region in
    let text = c.args.pattern.now in
    no_region u.content rs region c.in_ok-log.ensures.reads c.requires.site (λ both.
    let yes = c.may_map.ensures.1 both in
    cc (yes, c.if-not-may_map.true))

pub returns-clause-reads : goal.returns-clause-reads
returns-clause-reads g c =
    let view = g.D.Disk.disk in
    let u = view c.args.disk.now in
    let v = view c.read_instance.new.disk in
    let rs = c.in_ok-log.log.records in
    let region = c.args.region in
    let text = c.args.pattern.now in
    let w = view c.append_pattern.new.disk in
    let both = c.may_map.ensures.0 c.if-not-may_map.false in
    let inside : region < length (regions rs) = both.0 in
    let undrawn : generation rs ≡ 0 = both.1 in
    IfOk-weaker c.append_pattern.result (λ _. IfSome v.content (λ _. IfSome w.content (λ now. IsInstance (now INSTANCE) (rs ++ pattern_record region text ∷ []))))
    (λ _. IfSome u.content (λ files. (x : Contents) → IsSite files x → IfSome w.content (λ now. IsSite now (with_pattern region text x))))
    (λ done h. map_reads u v w rs region text inside undrawn (g.met.D.Disk.lawful c.read_instance.new.disk) (g.met.D.Disk.lawful c.append_pattern.new.disk) c.in_ok-log.ensures.any_moment c.in_ok-log.ensures.content c.in_ok-log.ensures.reads c.in_ok-log.ensures.durable c.append_pattern.ensures.frame h) c.append_pattern.ensures.reads

pub returns-clause-images : goal.returns-clause-images
returns-clause-images g c =
    let view = g.D.Disk.disk in
    let u = view c.args.disk.now in
    let v = view c.read_instance.new.disk in
    let rs = c.in_ok-log.log.records in
    let region = c.args.region in
    let text = c.args.pattern.now in
    let w = view c.append_pattern.new.disk in
    let both = c.may_map.ensures.0 c.if-not-may_map.false in
    let inside : region < length (regions rs) = both.0 in
    let undrawn : generation rs ≡ 0 = both.1 in
    IfOk-weaker c.append_pattern.result (λ _. IfSome v.content (λ _. (f : Files) → Image w f → IsInstance (f INSTANCE) (rs ++ pattern_record region text ∷ [])))
    (λ _. IfSome u.content (λ files. (x : Contents) → IsSite files x → EachStands u → (f : Files) → Image w f → IsSite f (with_pattern region text x)))
    (λ done h. map_images u v w rs region text inside undrawn (g.met.D.Disk.lawful c.read_instance.new.disk) (g.met.D.Disk.lawful c.append_pattern.new.disk) c.in_ok-log.ensures.any_moment c.in_ok-log.ensures.content c.in_ok-log.ensures.reads c.in_ok-log.ensures.durable c.append_pattern.ensures.frame h) c.append_pattern.ensures.images

pub returns-clause-any_moment : goal.returns-clause-any_moment
returns-clause-any_moment g c =
    let view = g.D.Disk.disk in
    let u = view c.args.disk.now in
    let v = view c.read_instance.new.disk in
    let rs = c.in_ok-log.log.records in
    let region = c.args.region in
    let text = c.args.pattern.now in
    let w = view c.append_pattern.new.disk in
    let both = c.may_map.ensures.0 c.if-not-may_map.false in
    let inside : region < length (regions rs) = both.0 in
    let undrawn : generation rs ≡ 0 = both.1 in
    map_moments u v w rs region text inside undrawn (g.met.D.Disk.lawful c.read_instance.new.disk) (g.met.D.Disk.lawful c.append_pattern.new.disk) c.in_ok-log.ensures.any_moment c.in_ok-log.ensures.content c.in_ok-log.ensures.reads c.in_ok-log.ensures.durable c.append_pattern.ensures.frame c.append_pattern.ensures.any_moment

pub returns-clause-stands : goal.returns-clause-stands
returns-clause-stands g c =
    let view = g.D.Disk.disk in
    let u = view c.args.disk.now in
    let v = view c.read_instance.new.disk in
    let rs = c.in_ok-log.log.records in
    let region = c.args.region in
    let text = c.args.pattern.now in
    let w = view c.append_pattern.new.disk in
    let both = c.may_map.ensures.0 c.if-not-may_map.false in
    let inside : region < length (regions rs) = both.0 in
    let undrawn : generation rs ≡ 0 = both.1 in
    map_stands u v w rs region text inside undrawn (g.met.D.Disk.lawful c.read_instance.new.disk) (g.met.D.Disk.lawful c.append_pattern.new.disk) c.in_ok-log.ensures.any_moment c.in_ok-log.ensures.content c.in_ok-log.ensures.reads c.in_ok-log.ensures.durable c.append_pattern.ensures.frame c.append_pattern.ensures.any_moment

use Rattle.std.proofs.Common.{◌⊎◌, ◌<◌, inl, ◌++◌, ◌∷◌, [], length, IfSome, arith}
use Rattle.std.proofs.lemmas.Result.{IfOk-weaker}
use Rattle.disk_defs.specs.Disk.{Files, Image}
use Rattle.disk_defs.proofs.Told.{weaker_told}
use Rattle.journal_defs.specs.Numbers.{INSTANCE}
use Rattle.journal_defs.specs.Instance.{Mode, regions}
use Rattle.journal_defs.specs.Stands.{IsInstance}
use Rattle.site_defs.specs.Outside.{IsNoInstance}
use Rattle.mupip_rollback.specs.Setting.{HasNoRegion}
use Rattle.mupip_rollback.proofs.Errors.{files_was}
use Rattle.mupip_rollback.proofs.Modes.{ReadsSet, ImagesSet, no_region, lefts, moments, stands, reads_set, images_set}
use Rattle.mupip_rollback.proofs.setting.set_mode.Goals as goal

pub returns-in-Err-clause-place : goal.returns-in-Err-clause-place
returns-in-Err-clause-place g c file offset is =
    weaker_told (g.D.Disk.disk c.args.disk.now).content (λ files. IsNoInstance files file offset) (λ files. IsNoInstance files file offset ⊎ HasNoRegion files c.args.region file offset)
    (c.in-Err.ensures.place file offset (files_was c.in-Err.error c.in_files.result file offset c.in_files.ensures is)) (λ files out. inl out)

pub returns-then-not-has_region-clause-outside : goal.returns-then-not-has_region-clause-outside
returns-then-not-has_region-clause-outside g c file offset is =
    let rs = c.in-Ok.log.records in
    let region = c.args.region in
    no_region (g.D.Disk.disk c.args.disk.now).content rs region c.in-Ok.ensures.reads c.requires.site (λ inside.
    let same = c.from.ensures in
    let count = c.region_count.ensures in
    let none = c.if-not-has_region.true in
    omega (arith, same, count, none, inside))

pub returns-clause-reads : goal.returns-clause-reads
returns-clause-reads g c =
    let view = g.D.Disk.disk in
    let u = view c.args.disk.now in
    let v = view c.read_instance.new.disk in
    let w = view c.append_mode.new.disk in
    let rs = c.in-Ok.log.records in
    let region = c.args.region in
    let before = c.args.before in
    let inside : region < length (regions rs) = (let same = c.from.ensures in let count = c.region_count.ensures in let some = c.if-not-has_region.false in omega (arith, same, count, some)) in
    IfOk-weaker c.append_mode.result (λ _. IfSome v.content (λ _. IfSome w.content (λ now. IsInstance (now INSTANCE) (rs ++ Mode region before ∷ [])))) (λ _. IfSome u.content (ReadsSet w.content region before))
    (λ done h. reads_set u v w rs region before inside (g.met.D.Disk.lawful c.read_instance.new.disk) (g.met.D.Disk.lawful c.append_mode.new.disk) c.in-Ok.ensures.any_moment c.in-Ok.ensures.content c.in-Ok.ensures.reads c.in-Ok.ensures.durable c.append_mode.ensures.frame h) c.append_mode.ensures.reads

pub returns-clause-images : goal.returns-clause-images
returns-clause-images g c =
    let view = g.D.Disk.disk in
    let u = view c.args.disk.now in
    let v = view c.read_instance.new.disk in
    let w = view c.append_mode.new.disk in
    let rs = c.in-Ok.log.records in
    let region = c.args.region in
    let before = c.args.before in
    let inside : region < length (regions rs) = (let same = c.from.ensures in let count = c.region_count.ensures in let some = c.if-not-has_region.false in omega (arith, same, count, some)) in
    IfOk-weaker c.append_mode.result (λ _. IfSome v.content (λ _. (f : Files) → Image w f → IsInstance (f INSTANCE) (rs ++ Mode region before ∷ []))) (λ _. IfSome u.content (ImagesSet u w region before))
    (λ done h. images_set u v w rs region before inside (g.met.D.Disk.lawful c.read_instance.new.disk) (g.met.D.Disk.lawful c.append_mode.new.disk) c.in-Ok.ensures.any_moment c.in-Ok.ensures.content c.in-Ok.ensures.reads c.in-Ok.ensures.durable c.append_mode.ensures.frame h) c.append_mode.ensures.images

pub returns-clause-any_moment : goal.returns-clause-any_moment
returns-clause-any_moment g c =
    let view = g.D.Disk.disk in
    let u = view c.args.disk.now in
    let v = view c.read_instance.new.disk in
    let w = view c.append_mode.new.disk in
    let rs = c.in-Ok.log.records in
    let region = c.args.region in
    let before = c.args.before in
    let inside : region < length (regions rs) = (let same = c.from.ensures in let count = c.region_count.ensures in let some = c.if-not-has_region.false in omega (arith, same, count, some)) in
    moments u v w rs region before inside (g.met.D.Disk.lawful c.read_instance.new.disk) (g.met.D.Disk.lawful c.append_mode.new.disk) c.in-Ok.ensures.any_moment c.in-Ok.ensures.content c.in-Ok.ensures.reads c.in-Ok.ensures.durable c.append_mode.ensures.frame c.append_mode.ensures.any_moment

pub returns-clause-left : goal.returns-clause-left
returns-clause-left g c =
    let view = g.D.Disk.disk in
    let u = view c.args.disk.now in
    let v = view c.read_instance.new.disk in
    let w = view c.append_mode.new.disk in
    let rs = c.in-Ok.log.records in
    let region = c.args.region in
    let before = c.args.before in
    let inside : region < length (regions rs) = (let same = c.from.ensures in let count = c.region_count.ensures in let some = c.if-not-has_region.false in omega (arith, same, count, some)) in
    lefts u v w rs region before inside (g.met.D.Disk.lawful c.read_instance.new.disk) (g.met.D.Disk.lawful c.append_mode.new.disk) c.in-Ok.ensures.any_moment c.in-Ok.ensures.content c.in-Ok.ensures.reads c.in-Ok.ensures.durable c.append_mode.ensures.frame c.append_mode.ensures.any_moment

pub returns-clause-stands : goal.returns-clause-stands
returns-clause-stands g c =
    let view = g.D.Disk.disk in
    let u = view c.args.disk.now in
    let v = view c.read_instance.new.disk in
    let w = view c.append_mode.new.disk in
    let rs = c.in-Ok.log.records in
    let region = c.args.region in
    let before = c.args.before in
    let inside : region < length (regions rs) = (let same = c.from.ensures in let count = c.region_count.ensures in let some = c.if-not-has_region.false in omega (arith, same, count, some)) in
    stands u v w rs region before inside (g.met.D.Disk.lawful c.read_instance.new.disk) (g.met.D.Disk.lawful c.append_mode.new.disk) c.in-Ok.ensures.any_moment c.in-Ok.ensures.content c.in-Ok.ensures.reads c.in-Ok.ensures.durable c.append_mode.ensures.frame c.append_mode.ensures.any_moment

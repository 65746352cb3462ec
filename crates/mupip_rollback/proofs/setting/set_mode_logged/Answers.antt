use Rattle.std.proofs.Common.{◌++◌, ◌∷◌, [], IfSome, refl, arith}
use Rattle.std.proofs.lemmas.Result.{IfOk-weaker}
use Rattle.disk_defs.specs.Disk.{Files, Image}
use Rattle.journal_defs.specs.Numbers.{INSTANCE}
use Rattle.journal_defs.specs.Instance.{Mode}
use Rattle.journal_defs.specs.Stands.{IsInstance}
use Rattle.mupip_rollback.proofs.Modes.{ReadsSet, ImagesSet, quiet_now, lefts, moments, stands, reads_set, images_set}
use Rattle.mupip_rollback.proofs.setting.set_mode_logged.Goals as goal

pub append_mode-requires-clause-few : goal.append_mode-requires-clause-few
append_mode-requires-clause-few g c = omega (arith, c.requires.few, c.requires.region)

pub returns-clause-reads : goal.returns-clause-reads
returns-clause-reads g c =
    let view = g.D.Disk.disk in
    let v = view c.args.disk.now in
    let w = view c.append_mode.new.disk in
    let rs = c.args.log.records in
    let region = c.args.region in
    let before = c.args.before in
    IfOk-weaker c.append_mode.result (λ _. IfSome v.content (λ _. IfSome w.content (λ now. IsInstance (now INSTANCE) (rs ++ Mode region before ∷ [])))) (λ _. IfSome v.content (ReadsSet w.content region before))
    (λ done h. reads_set v v w rs region before c.requires.region (g.met.D.Disk.lawful c.args.disk.now) (g.met.D.Disk.lawful c.append_mode.new.disk) (quiet_now v) refl c.requires.told c.requires.durable c.append_mode.ensures.frame h) c.append_mode.ensures.reads

pub returns-clause-images : goal.returns-clause-images
returns-clause-images g c =
    let view = g.D.Disk.disk in
    let v = view c.args.disk.now in
    let w = view c.append_mode.new.disk in
    let rs = c.args.log.records in
    let region = c.args.region in
    let before = c.args.before in
    IfOk-weaker c.append_mode.result (λ _. IfSome v.content (λ _. (f : Files) → Image w f → IsInstance (f INSTANCE) (rs ++ Mode region before ∷ []))) (λ _. IfSome v.content (ImagesSet v w region before))
    (λ done h. images_set v v w rs region before c.requires.region (g.met.D.Disk.lawful c.args.disk.now) (g.met.D.Disk.lawful c.append_mode.new.disk) (quiet_now v) refl c.requires.told c.requires.durable c.append_mode.ensures.frame h) c.append_mode.ensures.images

pub returns-clause-any_moment : goal.returns-clause-any_moment
returns-clause-any_moment g c =
    let view = g.D.Disk.disk in
    let v = view c.args.disk.now in
    moments v v (view c.append_mode.new.disk) c.args.log.records c.args.region c.args.before c.requires.region (g.met.D.Disk.lawful c.args.disk.now) (g.met.D.Disk.lawful c.append_mode.new.disk) (quiet_now v) refl c.requires.told c.requires.durable
    c.append_mode.ensures.frame c.append_mode.ensures.any_moment

pub returns-clause-left : goal.returns-clause-left
returns-clause-left g c =
    let view = g.D.Disk.disk in
    let v = view c.args.disk.now in
    lefts v v (view c.append_mode.new.disk) c.args.log.records c.args.region c.args.before c.requires.region (g.met.D.Disk.lawful c.args.disk.now) (g.met.D.Disk.lawful c.append_mode.new.disk) (quiet_now v) refl c.requires.told c.requires.durable
    c.append_mode.ensures.frame c.append_mode.ensures.any_moment

pub returns-clause-stands : goal.returns-clause-stands
returns-clause-stands g c =
    let view = g.D.Disk.disk in
    let v = view c.args.disk.now in
    stands v v (view c.append_mode.new.disk) c.args.log.records c.args.region c.args.before c.requires.region (g.met.D.Disk.lawful c.args.disk.now) (g.met.D.Disk.lawful c.append_mode.new.disk) (quiet_now v) refl c.requires.told c.requires.durable
    c.append_mode.ensures.frame c.append_mode.ensures.any_moment

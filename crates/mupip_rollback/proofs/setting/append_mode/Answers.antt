use Rattle.disk_defs.specs.Frames.{Only}
use Rattle.disk_defs.proofs.Frames.{others_then}
use Rattle.journal_defs.specs.Numbers.{INSTANCE}
use Rattle.journal_defs.specs.Instance.{Mode}
use Rattle.site_files.proofs.Cutting.{cut_stands}
use Rattle.site_store.proofs.Appended.{has_images}
use Rattle.mupip_rollback.proofs.setting.append_mode.Goals as goal

pub returns-in-Ok-mode-clause-images : goal.returns-in-Ok-mode-clause-images
returns-in-Ok-mode-clause-images g c =
    let view = g.D.Disk.disk in
    has_images (view c.args.disk.now) (view c.open.new.disk) (view c.mode.new.disk) c.in-Ok.instance c.mode.new.self c.args.log.records (Mode c.args.region c.args.before)
    c.in-Ok.ensures.state c.in-Ok-mode.ensures.state

pub returns-in-Ok-mode-clause-any_moment : goal.returns-in-Ok-mode-clause-any_moment
returns-in-Ok-mode-clause-any_moment g c =
    let view = g.D.Disk.disk in
    let u = view c.args.disk.now in
    let v = view c.open.new.disk in
    let w = view c.mode.new.disk in
    let rs = c.args.log.records in
    cut_stands u v rs (Mode c.args.region c.args.before) c.requires.stands c.requires.durable c.open.ensures.any_moment w c.in-Ok.instance (g.met.D.Disk.lawful c.open.new.disk) c.in-Ok.ensures.state
    c.mode.ensures.any_moment

pub returns-clause-any_moment : goal.returns-clause-any_moment
returns-clause-any_moment g c =
    let view = g.D.Disk.disk in
    let u = view c.args.disk.now in
    let v = view c.open.new.disk in
    let w = view c.mode.new.disk in
    let rs = c.args.log.records in
    cut_stands u v rs (Mode c.args.region c.args.before) c.requires.stands c.requires.durable c.open.ensures.any_moment w c.in-Ok.instance (g.met.D.Disk.lawful c.open.new.disk) c.in-Ok.ensures.state
    c.mode.ensures.any_moment

pub returns-in-Ok-mode-clause-frame : goal.returns-in-Ok-mode-clause-frame
returns-in-Ok-mode-clause-frame g c =
    let view = g.D.Disk.disk in
    others_then (Only INSTANCE) (view c.args.disk.now) (view c.open.new.disk) (view c.mode.new.disk) c.open.ensures.frame c.mode.ensures.frame

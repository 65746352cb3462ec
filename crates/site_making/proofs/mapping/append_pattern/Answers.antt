use Rattle.disk_defs.specs.Frames.{Only}
use Rattle.disk_defs.proofs.Frames.{others_then}
use Rattle.journal_defs.specs.Numbers.{INSTANCE}
use Rattle.journal_defs.specs.Instance.{pattern_record}
use Rattle.site_files.proofs.Cutting.{keep_stands, cut_stands}
use Rattle.site_store.proofs.Appended.{has_reads, has_images}
use Rattle.site_making.proofs.mapping.append_pattern.Goals as goal

pub returns-in-Ok-map-clause-reads : goal.returns-in-Ok-map-clause-reads
returns-in-Ok-map-clause-reads g c =
    let view = g.D.Disk.disk in
    has_reads (view c.args.disk.now) (view c.open.new.disk) (view c.map.new.disk) c.in-Ok.instance c.map.new.self c.args.log.records (pattern_record c.args.region c.args.pattern.now)
    c.in-Ok.ensures.state c.in-Ok-map.ensures.state

pub returns-in-Ok-map-clause-images : goal.returns-in-Ok-map-clause-images
returns-in-Ok-map-clause-images g c =
    let view = g.D.Disk.disk in
    has_images (view c.args.disk.now) (view c.open.new.disk) (view c.map.new.disk) c.in-Ok.instance c.map.new.self c.args.log.records (pattern_record c.args.region c.args.pattern.now)
    c.in-Ok.ensures.state c.in-Ok-map.ensures.state

pub returns-in-Ok-map-clause-any_moment : goal.returns-in-Ok-map-clause-any_moment
returns-in-Ok-map-clause-any_moment g c =
    let view = g.D.Disk.disk in
    let u = view c.args.disk.now in
    let v = view c.open.new.disk in
    let w = view c.map.new.disk in
    let rs = c.args.log.records in
    cut_stands u v rs (pattern_record c.args.region c.args.pattern.now) c.requires.stands c.requires.durable c.open.ensures.any_moment w c.in-Ok.instance (g.met.D.Disk.lawful c.open.new.disk) c.in-Ok.ensures.state
    c.map.ensures.any_moment

pub returns-clause-any_moment : goal.returns-clause-any_moment
returns-clause-any_moment g c =
    let view = g.D.Disk.disk in
    let u = view c.args.disk.now in
    let v = view c.open.new.disk in
    let w = view c.map.new.disk in
    let rs = c.args.log.records in
    cut_stands u v rs (pattern_record c.args.region c.args.pattern.now) c.requires.stands c.requires.durable c.open.ensures.any_moment w c.in-Ok.instance (g.met.D.Disk.lawful c.open.new.disk) c.in-Ok.ensures.state
    c.map.ensures.any_moment

pub returns-in-Err-clause-any_moment : goal.returns-in-Err-clause-any_moment
returns-in-Err-clause-any_moment g c =
    let view = g.D.Disk.disk in
    keep_stands (view c.args.disk.now) (view c.open.new.disk) c.args.log.records (pattern_record c.args.region c.args.pattern.now) c.requires.stands c.requires.durable c.open.ensures.any_moment

pub returns-in-Ok-map-clause-frame : goal.returns-in-Ok-map-clause-frame
returns-in-Ok-map-clause-frame g c =
    let view = g.D.Disk.disk in
    others_then (Only INSTANCE) (view c.args.disk.now) (view c.open.new.disk) (view c.map.new.disk) c.open.ensures.frame c.map.ensures.frame

pub returns-clause-frame : goal.returns-clause-frame
returns-clause-frame g c =
    let view = g.D.Disk.disk in
    others_then (Only INSTANCE) (view c.args.disk.now) (view c.open.new.disk) (view c.map.new.disk) c.open.ensures.frame c.map.ensures.frame

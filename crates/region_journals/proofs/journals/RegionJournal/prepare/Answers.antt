use Rattle.jnl_record.specs.Values.{record_value}
use Rattle.disk_defs.specs.Disk.{Image}
use Rattle.disk_defs.specs.Frames.{Only}
use Rattle.disk_defs.proofs.Frames.{others_same}
use Rattle.disk_defs.proofs.Moments.{started}
use Rattle.region_journals.proofs.Entered.{part_is, no_part_is}
use Rattle.region_journals.proofs.Prepared.{still_same, one_same, one_prepared, none_prepared}
use Rattle.region_journals.proofs.journals.RegionJournal.prepare.Goals as goal

pub returns-in-None-clause-turned : goal.returns-in-None-clause-turned
returns-in-None-clause-turned g c r = still_same (g.D.Disk.disk c.args.disk.now) r c.args.self.now c.requires.ready c.requires.goes_on

pub returns-in-None-clause-prepared : goal.returns-in-None-clause-prepared
returns-in-None-clause-prepared g c = none_prepared c.args.parts.now c.args.self.now.journal.region c.args.self.now (no_part_is (λ x. record_value x.now) c.record.result _ c.record.ensures.value c.in-None.is)

pub returns-in-None-clause-any_moment : goal.returns-in-None-clause-any_moment
returns-in-None-clause-any_moment g c = let v = g.D.Disk.disk c.args.disk.now in started v (Image v) (λ i now. now)

pub returns-in-None-clause-frame : goal.returns-in-None-clause-frame
returns-in-None-clause-frame g c = others_same (Only c.args.self.now.journal.gated.file) (g.D.Disk.disk c.args.disk.now)

pub returns-in-Some-clause-turned : goal.returns-in-Some-clause-turned
returns-in-Some-clause-turned g c r =
    let view = g.D.Disk.disk in
    let call = c.prepare.ensures in
    one_same (view c.args.disk.now) (view c.prepare.new.disk) r c.args.self.now c.prepare.new.self c.prepare.result c.requires.goes_on call.ready call.place call.syncs call.err call.state

pub returns-in-Some-clause-prepared : goal.returns-in-Some-clause-prepared
returns-in-Some-clause-prepared g c =
    let call = c.prepare.ensures in
    one_prepared c.args.parts.now c.args.self.now.journal.region c.args.self.now c.prepare.new.self c.prepare.result (record_value c.in-Some.part.now)
    (part_is (λ x. record_value x.now) c.record.result _ c.in-Some.part c.record.ensures.value c.in-Some.is) call.prepared call.syncs

use Rattle.std.proofs.Common.{true, [], refl}
use Rattle.jnl_record.specs.Values.{record_value}
use Rattle.disk_defs.specs.Frames.{Only}
use Rattle.disk_defs.proofs.Frames.{others_same}
use Rattle.region_journals.specs.declared.journals.RegionJournal.{RegionJournal}
use Rattle.region_journals.proofs.Entered.{none_taken, part_taken, none_appended, part_is, no_part_is}
use Rattle.region_journals.proofs.journals.RegionJournal.append.Goals as goal

pub returns-in-None-clause-turned : goal.returns-in-None-clause-turned
returns-in-None-clause-turned g c =
    none_taken (g.D.Disk.disk c.args.disk.now) c.args.parts.now c.args.self.now.journal.region c.args.self.now (no_part_is (λ x. record_value x.now) c.record.result _ c.record.ensures.value c.in-None.is) c.requires.ready c.requires.goes_on

pub returns-in-None-clause-any_moment : goal.returns-in-None-clause-any_moment
returns-in-None-clause-any_moment g c hard waiting has = none_appended (g.D.Disk.disk c.args.disk.now) c.args.self.now hard waiting has

pub returns-in-None-clause-frame : goal.returns-in-None-clause-frame
returns-in-None-clause-frame g c = others_same (Only c.args.self.now.journal.gated.file) (g.D.Disk.disk c.args.disk.now)

pub append-requires-clause-prepared : goal.append-requires-clause-prepared
append-requires-clause-prepared g c =
    let what = record_value c.in-Some.field-0.now in
    (what, (c.requires.prepared what (part_is (λ x. record_value x.now) c.record.result _ c.in-Some.field-0 c.record.ensures.value c.in-Some.is)).0)

pub returns-in_ok-append-in-Some-clause-turned : goal.returns-in_ok-append-in-Some-clause-turned
returns-in_ok-append-in-Some-clause-turned g c =
    let view = g.D.Disk.disk in
    let x = c.args.self.now in
    let y : RegionJournal = record { journal = c.append.new.self; appended = true } in
    let call = c.in_ok-append-in-Some.ensures in
    part_taken (view c.args.disk.now) (view c.append.new.disk) c.args.parts.now x.journal.region x y (record_value c.in-Some.field-0.now)
    (part_is (λ x. record_value x.now) c.record.result _ c.in-Some.field-0 c.record.ensures.value c.in-Some.is) c.requires.prepared refl call.ready c.append.ensures.place call.syncs call.state

pub returns-in_ok-append-in-Some-clause-any_moment : goal.returns-in_ok-append-in-Some-clause-any_moment
returns-in_ok-append-in-Some-clause-any_moment g c hard waiting has = c.append.ensures.any_moment (record { hard = hard; opening = []; closed = waiting }) has

pub returns-in_err-append-in-Some-clause-any_moment : goal.returns-in_err-append-in-Some-clause-any_moment
returns-in_err-append-in-Some-clause-any_moment g c hard waiting has = c.append.ensures.any_moment (record { hard = hard; opening = []; closed = waiting }) has

use Rattle.std.proofs.Common.{[]}
use Rattle.jnl_record.specs.Values.{record_value}
use Rattle.jnl_file.specs.Records.{Recorded}
use Rattle.region_journals.proofs.Logged.{prepared_only, one_logged, still_stands, stands_then}
use Rattle.region_journals.proofs.journals.RegionJournal.log.Goals as goal

pub append-requires-clause-prepared : goal.append-requires-clause-prepared
append-requires-clause-prepared g c = (record_value c.args.what.now, c.in_ok-prepare.ensures.prepared)

pub returns-in_err-prepare-clause-none : goal.returns-in_err-prepare-clause-none
returns-in_err-prepare-clause-none g c is =
    let view = g.D.Disk.disk in
    let call = c.prepare.ensures in
    prepared_only (view c.args.disk.now) (view c.prepare.new.disk) c.args.self.now c.prepare.new.self c.prepare.result c.requires.goes_on call.ready call.place call.syncs call.err call.state

pub returns-in_err-prepare-clause-any_moment : goal.returns-in_err-prepare-clause-any_moment
returns-in_err-prepare-clause-any_moment g c hard waiting has =
    let view = g.D.Disk.disk in
    still_stands (view c.args.disk.now) (view c.prepare.new.disk) c.args.self.now.journal hard waiting has c.prepare.ensures.any_moment

pub returns-in_err-append-clause-any_moment : goal.returns-in_err-append-clause-any_moment
returns-in_err-append-clause-any_moment g c hard waiting has =
    let view = g.D.Disk.disk in
    let u = view c.args.disk.now in
    let m = view c.prepare.new.disk in
    let j = c.args.self.now.journal in
    let s : Recorded = record { hard = hard; opening = []; closed = waiting } in
    stands_then u m (view c.append.new.disk) j.gated.file c.prepare.new.self.gated.file hard (g.met.D.Disk.lawful c.prepare.new.disk) c.prepare.ensures.place.file
    (still_stands u m j hard waiting has c.prepare.ensures.any_moment) (c.append.ensures.any_moment s (c.prepare.ensures.state s has))

pub returns-clause-all : goal.returns-clause-all
returns-clause-all g c =
    let view = g.D.Disk.disk in
    let first = c.in_ok-prepare.ensures in
    let second = c.in_ok-append.ensures in
    one_logged (view c.args.disk.now) (view c.prepare.new.disk) (view c.append.new.disk) c.args.self.now c.prepare.new.self c.append.new.self (record_value c.args.what.now)
    second.ready c.prepare.ensures.place c.append.ensures.place first.syncs second.syncs first.prepared c.prepare.ensures.state second.state

pub returns-clause-any_moment : goal.returns-clause-any_moment
returns-clause-any_moment g c hard waiting has =
    let view = g.D.Disk.disk in
    let u = view c.args.disk.now in
    let m = view c.prepare.new.disk in
    let j = c.args.self.now.journal in
    let s : Recorded = record { hard = hard; opening = []; closed = waiting } in
    stands_then u m (view c.append.new.disk) j.gated.file c.prepare.new.self.gated.file hard (g.met.D.Disk.lawful c.prepare.new.disk) c.prepare.ensures.place.file
    (still_stands u m j hard waiting has c.prepare.ensures.any_moment) (c.append.ensures.any_moment s (c.prepare.ensures.state s has))

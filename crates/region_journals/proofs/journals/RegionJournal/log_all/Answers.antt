use Rattle.std.proofs.Common.{map, take, sym, subst, arith}
use Rattle.std.specs.Prelude.{ℕ}
use Rattle.std.proofs.lemmas.List.{take-map, take_all}
use Rattle.std.proofs.lemmas.Result.{err_from_is_err_and}
use Rattle.disk_defs.specs.Frames.{Only, OthersStay}
use Rattle.disk_defs.proofs.Frames.{others_same, others_then}
use Rattle.disk_defs.specs.Disk.{Image}
use Rattle.disk_defs.proofs.Moments.{started}
use Rattle.jnl_record.specs.Values.{record_value}
use Rattle.region_journals.specs.Logging.{HasLogged}
use Rattle.region_journals.proofs.Logged.{none_logged, none_other, one_more, may_at, still_stands, stands_then}
use Rattle.region_journals.proofs.journals.RegionJournal.log_all.Goals as goal

pub loop-what-init : goal.loop-what-init
loop-what-init g c =
    let u = g.D.Disk.disk c.args.disk.now in
    let x = c.args.self.now in
    record {
      logged = none_logged u x c.requires.ready c.requires.goes_on;
      moments = λ hard waiting has. still_stands u u x.journal hard waiting has (started u (Image u) (λ i now. now));
      frame = others_same (Only x.journal.gated.file) u;
      faults = omega arith;
    }

pub log-requires-clause-ready : goal.log-requires-clause-ready
log-requires-clause-ready g c = c.loop-what.invariant.logged.ready

pub log-requires-clause-goes_on : goal.log-requires-clause-goes_on
log-requires-clause-goes_on g c = c.loop-what.invariant.logged.goes_on

pub log-requires-clause-may_be : goal.log-requires-clause-may_be
log-requires-clause-may_be g c = may_at c.args.records.now c.loop-what.what-index c.what-item.result c.loop-what-test.true c.what-item.is c.requires.may_be

pub loop-what-preserved : goal.loop-what-preserved
loop-what-preserved g c =
    let view = g.D.Disk.disk in
    let u = view c.args.disk.now in
    let v = view c.loop-what.disk in
    let w = view c.log.new.disk in
    let x = c.args.self.now in
    let y = c.loop-what.self in
    let rs = c.args.records.now in
    let inv = c.loop-what.invariant in
    let call = c.log.ensures in
    record {
      logged = one_more u v w rs c.loop-what.what-index c.what-item.result x y c.log.new.self c.loop-what-test.true c.what-item.is inv.logged c.in_ok-log.ensures.all;
      moments = λ hard waiting has. stands_then u v w x.journal.gated.file y.journal.gated.file hard (g.met.D.Disk.lawful c.loop-what.disk) inv.logged.same.file (inv.moments hard waiting has) (call.any_moment hard _ (inv.logged.state hard waiting has));
      frame = others_then (Only x.journal.gated.file) u v w inv.frame (subst (λ (file : ℕ). OthersStay (Only file) v w) inv.logged.same.file call.frame);
      faults = omega (arith, inv.faults, call.faults.later);
    }

pub returns-in_err-log-clause-fewer : goal.returns-in_err-log-clause-fewer
returns-in_err-log-clause-fewer g c =
    let p = err_from_is_err_and c.from_residual.result c.from_residual.ensures.1 in
    let view = g.D.Disk.disk in
    let u = view c.args.disk.now in
    let v = view c.loop-what.disk in
    let w = view c.log.new.disk in
    let x = c.args.self.now in
    let y = c.loop-what.self in
    let rs = c.args.records.now in
    let k = c.loop-what.what-index in
    rw (p.1, p.2) (λ is.
    (k, c.loop-what-test.true, subst (λ l. HasLogged u w l x c.log.new.self) (sym (take-map record_value k rs)) (none_other u v w (map record_value (take k rs)) x y c.log.new.self c.loop-what.invariant.logged (c.in_err-log.ensures.none is))))

pub returns-in_err-log-clause-any_moment : goal.returns-in_err-log-clause-any_moment
returns-in_err-log-clause-any_moment g c hard waiting has =
    let view = g.D.Disk.disk in
    let u = view c.args.disk.now in
    let v = view c.loop-what.disk in
    let w = view c.log.new.disk in
    let x = c.args.self.now in
    let y = c.loop-what.self in
    let inv = c.loop-what.invariant in
    stands_then u v w x.journal.gated.file y.journal.gated.file hard (g.met.D.Disk.lawful c.loop-what.disk) inv.logged.same.file (inv.moments hard waiting has) (c.log.ensures.any_moment hard _ (inv.logged.state hard waiting has))

pub returns-in_err-log-clause-frame : goal.returns-in_err-log-clause-frame
returns-in_err-log-clause-frame g c =
    let view = g.D.Disk.disk in
    let u = view c.args.disk.now in
    let v = view c.loop-what.disk in
    let w = view c.log.new.disk in
    let x = c.args.self.now in
    let inv = c.loop-what.invariant in
    others_then (Only x.journal.gated.file) u v w inv.frame (subst (λ (file : ℕ). OthersStay (Only file) v w) inv.logged.same.file c.log.ensures.frame)

pub returns-clause-all : goal.returns-clause-all
returns-clause-all g c =
    let view = g.D.Disk.disk in
    let u = view c.args.disk.now in
    let v = view c.loop-what.disk in
    let x = c.args.self.now in
    let rs = c.args.records.now in
    let end = c.loop-what-test.false in
    subst (λ l. HasLogged u v (map record_value l) x c.loop-what.self) (take_all c.loop-what.what-index rs (omega (arith, end))) c.loop-what.invariant.logged

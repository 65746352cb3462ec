use Rattle.std.proofs.Common.{rules, IsErrOf, ◌≡◌, Err, ◌∙◌, ap, arith}
use Rattle.std.proofs.lemmas.Result.{err_from_is_err_and}
use Rattle.disk_defs.proofs.Frames.{others_same}
use Rattle.site_store.specs.declared.error.SiteError.TheVariants as error
use Rattle.site_store.proofs.Errors.{two_on}
use Rattle.site_store.proofs.Logged as logging
use Rattle.site_store.proofs.memory.Memory.log_all_touched.Goals as goal

pub loop-update-init : goal.loop-update-init
loop-update-init g c =
    let u = g.D.Disk.disk c.args.disk.now in
    record {
      logged = logging.logged_none u c.args.self.now c.requires.ready;
      moments = logging.moments_none u c.args.self.now;
      frame = others_same _ u;
      faults = omega arith;
    }

pub loop-update-preserved : goal.loop-update-preserved
loop-update-preserved g c =
    let view = g.D.Disk.disk in
    let l = c.loop-update in
    let inv = l.invariant in
    let call = c.log_touched.ensures in
    let got = c.in_ok-log_touched.ensures in
    let u = view c.args.disk.now in
    let v = view l.disk in
    let w = view c.log_touched.new.disk in
    record {
      logged = logging.logged_then u v w c.args.self.now l.self c.log_touched.new.self inv.logged got.logged;
      moments = logging.moments_then u v w c.args.self.now l.self inv.moments inv.logged call.moments;
      frame = logging.frame_then u v w c.args.self.now l.self inv.logged.same inv.frame call.frame;
      faults = omega (arith, inv.faults, call.faults.later);
    }

pub returns-in_err-log_touched-clause-goes_on : goal.returns-in_err-log_touched-clause-goes_on
returns-in_err-log_touched-clause-goes_on g c =
    let view = g.D.Disk.disk in
    let l = c.loop-update in
    let p = err_from_is_err_and c.from_residual.result c.from_residual.ensures.1 in
    rw (p.1, p.2) (λ is. logging.logged_then (view c.args.disk.now) (view l.disk) (view c.log_touched.new.disk) c.args.self.now l.self c.log_touched.new.self l.invariant.logged
    (c.in_err-log_touched.ensures.goes_on (let same : c.in_err-log_touched.field-0.0 ≡ error.NoMemory = cc is in ap Err same)))

pub returns-in_err-log_touched-clause-causes : goal.returns-in_err-log_touched-clause-causes
returns-in_err-log_touched-clause-causes g c =
    let p = err_from_is_err_and c.from_residual.result c.from_residual.ensures.1 in
    rw (p.1, p.2) (two_on c.in_err-log_touched.field-0.0 c.in_err-log_touched.ensures.causes)

pub returns-in_err-log_touched-clause-same : goal.returns-in_err-log_touched-clause-same
returns-in_err-log_touched-clause-same g c = logging.same_then c.args.self.now c.loop-update.self c.log_touched.new.self c.loop-update.invariant.logged.same c.log_touched.ensures.same

pub returns-in_err-log_touched-clause-moments : goal.returns-in_err-log_touched-clause-moments
returns-in_err-log_touched-clause-moments g c =
    let view = g.D.Disk.disk in
    let l = c.loop-update in
    logging.moments_then (view c.args.disk.now) (view l.disk) (view c.log_touched.new.disk) c.args.self.now l.self l.invariant.moments l.invariant.logged c.log_touched.ensures.moments

pub returns-in_err-log_touched-clause-frame : goal.returns-in_err-log_touched-clause-frame
returns-in_err-log_touched-clause-frame g c =
    let view = g.D.Disk.disk in
    let l = c.loop-update in
    logging.frame_then (view c.args.disk.now) (view l.disk) (view c.log_touched.new.disk) c.args.self.now l.self l.invariant.logged.same l.invariant.frame c.log_touched.ensures.frame

pub returns-in_err-log_touched-clause-still : goal.returns-in_err-log_touched-clause-still
returns-in_err-log_touched-clause-still g c fault is =
    let logged = c.loop-update.invariant.logged in
    let failed : IsErrOf c.log_touched.result (error.Failed fault) = search (rules, is) in
    let same = c.log_touched.ensures.still fault failed in
    record { entries = same.entries ∙ logged.entries; globals = same.globals ∙ logged.globals }

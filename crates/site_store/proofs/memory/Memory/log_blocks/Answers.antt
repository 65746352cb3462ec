use Rattle.std.proofs.Common.{rules, IsErrOf, ◌≡◌, Err, ◌∙◌, ap, arith}
use Rattle.std.proofs.lemmas.Result.{err_from_is_err_and}
use Rattle.disk_defs.proofs.Frames.{others_same}
use Rattle.site_store.specs.declared.error.SiteError.TheVariants as error
use Rattle.site_store.proofs.Errors.{two_on}
use Rattle.site_store.proofs.Logged as logging
use Rattle.site_store.proofs.memory.Memory.log_blocks.Goals as goal

pub loop-block-init : goal.loop-block-init
loop-block-init g c =
    let u = g.D.Disk.disk c.args.disk.now in
    record {
      logged = logging.logged_none u c.args.self.now c.requires.ready;
      moments = logging.moments_none u c.args.self.now;
      frame = others_same _ u;
      faults = omega arith;
    }

pub loop-block-preserved : goal.loop-block-preserved
loop-block-preserved g c =
    let view = g.D.Disk.disk in
    let l = c.loop-block in
    let inv = l.invariant in
    let call = c.log_first_image.ensures in
    let got = c.in_ok-log_first_image.ensures in
    let u = view c.args.disk.now in
    let v = view l.disk in
    let w = view c.log_first_image.new.disk in
    record {
      logged = logging.logged_then u v w c.args.self.now l.self c.log_first_image.new.self inv.logged got.logged;
      moments = logging.moments_then u v w c.args.self.now l.self inv.moments inv.logged call.moments;
      frame = logging.frame_then u v w c.args.self.now l.self inv.logged.same inv.frame call.frame;
      faults = omega (arith, inv.faults, call.faults.later);
    }

pub returns-in_err-log_first_image-clause-goes_on : goal.returns-in_err-log_first_image-clause-goes_on
returns-in_err-log_first_image-clause-goes_on g c =
    let view = g.D.Disk.disk in
    let l = c.loop-block in
    let p = err_from_is_err_and c.from_residual.result c.from_residual.ensures.1 in
    rw (p.1, p.2) (λ is. logging.logged_then (view c.args.disk.now) (view l.disk) (view c.log_first_image.new.disk) c.args.self.now l.self c.log_first_image.new.self l.invariant.logged
    (c.in_err-log_first_image.ensures.goes_on (let same : c.in_err-log_first_image.field-0.0 ≡ error.NoMemory = cc is in ap Err same)))

pub returns-in_err-log_first_image-clause-causes : goal.returns-in_err-log_first_image-clause-causes
returns-in_err-log_first_image-clause-causes g c =
    let p = err_from_is_err_and c.from_residual.result c.from_residual.ensures.1 in
    rw (p.1, p.2) (two_on c.in_err-log_first_image.field-0.0 c.in_err-log_first_image.ensures.causes)

pub returns-in_err-log_first_image-clause-same : goal.returns-in_err-log_first_image-clause-same
returns-in_err-log_first_image-clause-same g c = logging.same_then c.args.self.now c.loop-block.self c.log_first_image.new.self c.loop-block.invariant.logged.same c.log_first_image.ensures.same

pub returns-in_err-log_first_image-clause-moments : goal.returns-in_err-log_first_image-clause-moments
returns-in_err-log_first_image-clause-moments g c =
    let view = g.D.Disk.disk in
    let l = c.loop-block in
    logging.moments_then (view c.args.disk.now) (view l.disk) (view c.log_first_image.new.disk) c.args.self.now l.self l.invariant.moments l.invariant.logged c.log_first_image.ensures.moments

pub returns-in_err-log_first_image-clause-frame : goal.returns-in_err-log_first_image-clause-frame
returns-in_err-log_first_image-clause-frame g c =
    let view = g.D.Disk.disk in
    let l = c.loop-block in
    logging.frame_then (view c.args.disk.now) (view l.disk) (view c.log_first_image.new.disk) c.args.self.now l.self l.invariant.logged.same l.invariant.frame c.log_first_image.ensures.frame

pub returns-in_err-log_first_image-clause-still : goal.returns-in_err-log_first_image-clause-still
returns-in_err-log_first_image-clause-still g c fault is =
    let logged = c.loop-block.invariant.logged in
    let failed : IsErrOf c.log_first_image.result (error.Failed fault) = search (rules, is) in
    let same = c.log_first_image.ensures.still fault failed in
    record { entries = same.entries ∙ logged.entries; globals = same.globals ∙ logged.globals }

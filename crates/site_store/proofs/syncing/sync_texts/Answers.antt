use Rattle.std.proofs.Common.{refl, ◌∙◌, arith}
use Rattle.std.proofs.lemmas.Result.{err_from_is_err_and}
use Rattle.disk_defs.specs.Disk.{Image}
use Rattle.disk_defs.proofs.Moments.{started, nothing_new}
use Rattle.site_store.proofs.Errors.{two_on}
use Rattle.site_store.proofs.Texts.{none_durable, one_more_durable}
use Rattle.site_store.proofs.syncing.sync_texts.Goals as goal

pub returns-in_err-sync_both-clause-causes : goal.returns-in_err-sync_both-clause-causes
returns-in_err-sync_both-clause-causes g c =
    let p = err_from_is_err_and c.from_residual.result c.from_residual.ensures.1 in
    rw (p.1, p.2) (two_on c.in_err-sync_both.field-0.0 c.in_err-sync_both.ensures.causes)

pub loop-earlier-init : goal.loop-earlier-init
loop-earlier-init g c =
    let u = g.D.Disk.disk c.args.disk.now in
    record {
      durable = none_durable u.content u;
      content = refl;
      moments = started u (Image u) (λ c now. now);
      simulated = refl;
      faults = omega arith;
    }

pub loop-earlier-preserved : goal.loop-earlier-preserved
loop-earlier-preserved g c =
    let view = g.D.Disk.disk in
    let l = c.loop-earlier in
    let inv = l.invariant in
    let call = c.sync_both.ensures in
    let got = c.in_ok-sync_both.ensures in
    let u = view c.args.disk.now in
    let v = view l.disk in
    let w = view c.sync_both.new.disk in
    record {
      durable = one_more_durable u v w l.earlier inv.content (g.met.D.Disk.lawful c.sync_both.new.disk) call.any_moment inv.durable got.durable;
      content = call.content ∙ inv.content;
      moments = nothing_new u v w (Image u) (g.met.D.Disk.lawful l.disk) inv.moments call.any_moment;
      simulated = call.simulated ∙ inv.simulated;
      faults = omega (arith, inv.faults, call.faults.later);
    }

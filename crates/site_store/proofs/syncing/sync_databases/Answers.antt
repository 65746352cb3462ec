use Rattle.std.proofs.Common.{refl, ◌∙◌, arith}
use Rattle.std.proofs.lemmas.Result.{err_from_is_err_and}
use Rattle.disk_defs.specs.Disk.{Image}
use Rattle.disk_defs.proofs.Moments.{started, nothing_new}
use Rattle.site_store.proofs.Errors.{two_on}
use Rattle.site_store.proofs.Databases.{no_database, one_more_database}
use Rattle.site_store.proofs.syncing.sync_databases.Goals as goal

pub returns-in_err-sync_whole-clause-causes : goal.returns-in_err-sync_whole-clause-causes
returns-in_err-sync_whole-clause-causes g c =
    let p = err_from_is_err_and c.from_residual.result c.from_residual.ensures.1 in
    rw (p.1, p.2) (two_on c.in_err-sync_whole.field-0.0 c.in_err-sync_whole.ensures.causes)

pub loop-region-init : goal.loop-region-init
loop-region-init g c =
    let u = g.D.Disk.disk c.args.disk.now in
    record {
      durable = no_database u.content u;
      content = refl;
      moments = started u (Image u) (λ c now. now);
      simulated = refl;
      faults = omega arith;
    }

pub loop-region-preserved : goal.loop-region-preserved
loop-region-preserved g c =
    let view = g.D.Disk.disk in
    let l = c.loop-region in
    let inv = l.invariant in
    let call = c.sync_whole.ensures in
    let got = c.in_ok-sync_whole.ensures in
    let u = view c.args.disk.now in
    let v = view l.disk in
    let w = view c.sync_whole.new.disk in
    record {
      durable = one_more_database u v w l.region inv.content (g.met.D.Disk.lawful c.sync_whole.new.disk) call.any_moment inv.durable got.durable;
      content = call.content ∙ inv.content;
      moments = nothing_new u v w (Image u) (g.met.D.Disk.lawful l.disk) inv.moments call.any_moment;
      simulated = call.simulated ∙ inv.simulated;
      faults = omega (arith, inv.faults, call.faults.later);
    }

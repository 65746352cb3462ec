use Rattle.std.proofs.Common.{◌+◌, ◌<◌, refl, ◌∙◌, arith}
use Rattle.std.proofs.lemmas.Result.{err_from_is_err_and}
use Rattle.disk_defs.specs.Disk.{Image}
use Rattle.disk_defs.proofs.Moments.{nothing_new}
use Rattle.site_files.proofs.RegionsRead.{told_begun, told_begun_early, told_unbegun, told_unbegun_durable}
use Rattle.site_files.proofs.reading.see_regions.Goals as goal

pub returns-in_err-see_unbegun-clause-outside : goal.returns-in_err-see_unbegun-clause-outside
returns-in_err-see_unbegun-clause-outside g c =
    let view = g.D.Disk.disk in
    let l = c.loop-region in
    let low : l.region < c.args.regions = omega arith in
    let p = err_from_is_err_and c.from_residual.result c.from_residual.ensures.1 in
    rw (p.1, p.2) (λ file offset is.
    told_begun (view c.args.disk.now).content (view l.disk).content c.args.regions l.region c.args.generation low l.invariant.content (c.in_err-see_unbegun.ensures.outside file offset is))

pub returns-in_err-see_unbegun-clause-place : goal.returns-in_err-see_unbegun-clause-place
returns-in_err-see_unbegun-clause-place g c =
    let view = g.D.Disk.disk in
    let l = c.loop-region in
    let low : l.region < c.args.regions = omega arith in
    let p = err_from_is_err_and c.from_residual.result c.from_residual.ensures.1 in
    rw (p.1, p.2) (λ file offset is.
    told_begun_early (view c.args.disk.now).content (view l.disk).content c.args.regions l.region c.args.generation file offset low l.invariant.content (c.in_err-see_unbegun.ensures.place file offset is) l.invariant.next
    (c.in_err-see_unbegun.ensures.outside file offset is))

pub returns-in_err-see_unbegun-clause-causes : goal.returns-in_err-see_unbegun-clause-causes
returns-in_err-see_unbegun-clause-causes g c =
    let p = err_from_is_err_and c.from_residual.result c.from_residual.ensures.1 in
    rw (p.1, p.2) c.in_err-see_unbegun.ensures.causes

pub loop-region-preserved : goal.loop-region-preserved
loop-region-preserved g c =
    let view = g.D.Disk.disk in
    let l = c.loop-region in
    let inv = l.invariant in
    let call = c.see_unbegun.ensures in
    let got = c.in_ok-see_unbegun.ensures in
    let u = view c.args.disk.now in
    let v = view l.disk in
    let w = view c.see_unbegun.new.disk in
    record {
      next = told_unbegun u.content v.content l.region (l.region + 1) c.args.generation refl inv.content inv.next got.next;
      durable = told_unbegun_durable u v w l.region (l.region + 1) c.args.generation refl inv.content (g.met.D.Disk.lawful c.see_unbegun.new.disk) call.any_moment inv.durable got.durable;
      content = call.content ∙ inv.content;
      moments = nothing_new u v w (Image u) (g.met.D.Disk.lawful l.disk) inv.moments call.any_moment;
      simulated = call.simulated ∙ inv.simulated;
      faults = omega (arith, inv.faults, call.faults.later);
    }

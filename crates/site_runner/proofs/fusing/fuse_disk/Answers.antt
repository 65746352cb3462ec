use Rattle.std.proofs.Common.{refl, ◌∙◌, sym}
use Rattle.world_defs.specs.rows.Fuse.{fuse}
use Rattle.site_runner.specs.declared.cause.Cause.TheVariants.{NotSimulated}
use Rattle.site_runner.specs.Ending.{down, down_after}
use Rattle.site_runner.proofs.Ats.{kept_same, refuses_by}
use Rattle.site_runner.proofs.Crashed.{fuse_real, fused}
use Rattle.site_runner.proofs.fusing.fuse_disk.Goals as goal

pub returns-then-not-simulated-clause-done : goal.returns-then-not-simulated-clause-done
returns-then-not-simulated-clause-done g c =
    let v = g.D.Disk.disk c.args.disk.now in
    let name = c.args.name.now in
    refuses_by (fuse c.args.calls name) v (down name) NotSimulated c.args.text.now _ name c.refuse.result (down_after name) refl
    (λ p h. fuse_real v (down name) c.args.calls p refl (sym c.if-not-simulated.true ∙ c.simulated.ensures) h) kept_same (λ p. tt) refl c.refuse.ensures

pub returns-clause-done : goal.returns-clause-done
returns-clause-done g c =
    fused (g.D.Disk.disk c.args.disk.now) (g.D.Disk.disk c.fuse.new.self) (down c.args.name.now) c.args.calls c.args.text.now _ c.fuse.ensures.reads c.fuse.ensures.faults (sym c.if-not-simulated.false ∙ c.simulated.ensures) refl c.in_ok-write_numbered.ensures

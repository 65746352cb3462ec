use Rattle.std.proofs.Common.{true, refl, ◌∙◌, sym, subst}
use Rattle.world_defs.specs.rows.Fuse.{fuse}
use Rattle.site_store.specs.declared.memory.Memory.{Memory}
use Rattle.site_store.specs.Owning.{disk_of}
use Rattle.site_runner.specs.declared.cause.Cause.TheVariants.{NotSimulated}
use Rattle.site_runner.specs.Ending.{primary, primary_after}
use Rattle.site_runner.specs.Sites.{Primary}
use Rattle.site_runner.specs.Steps.{ExecutesAt}
use Rattle.site_runner.proofs.Ats.{kept_same, refuses_by}
use Rattle.site_runner.proofs.Crashed.{fuse_real, fused}
use Rattle.site_runner.proofs.fusing.fuse_site.Goals as goal

pub returns-then-not-simulated-clause-done : goal.returns-then-not-simulated-clause-done
returns-then-not-simulated-clause-done g c =
    let v = g.D.Disk.disk (disk_of c.args.reign.now.site) in
    let name = c.args.name.now in
    let s = primary name c.args.reign.now in
    refuses_by (fuse c.args.calls name) v s NotSimulated c.args.text.now _ name c.refuse.result (primary_after name c.args.reign.now) refl
    (λ p h. fuse_real v s c.args.calls p refl (sym c.if-not-simulated.true ∙ c.simulated.ensures) h) kept_same (λ p. tt) refl c.refuse.ensures

pub returns-clause-done : goal.returns-clause-done
returns-clause-done g c =
    let e = c.fuse.ensures in
    let v = g.D.Disk.disk (disk_of c.args.reign.now.site) in
    let w = g.D.Disk.disk (disk_of c.fuse.new.self) in
    let name = c.args.name.now in
    let s = primary name c.args.reign.now in
    subst (λ (m : Memory). ExecutesAt (fuse c.args.calls name) v s w (record { name = name; state = Primary (record { site = m; serials = c.args.reign.now.serials }) }) c.args.text.now c.write_numbered.new.text true) (sym e.kept)
    (fused v w s c.args.calls c.args.text.now _ e.reads e.faults (sym c.if-not-simulated.false ∙ c.simulated.ensures) refl c.in_ok-write_numbered.ensures)

use Rattle.std.proofs.Common.{subst, sym}
use Rattle.std.specs.Prelude.{IfSome}
use Rattle.region_store.specs.Region.{Standing, IsHeld}
use Rattle.region_store.proofs.Marking.{standing}
use Rattle.region_store.proofs.Logs.{image_asked}
use Rattle.region_store.proofs.region.Region.log_image.Goals as goal

pub log_image-requires : goal.log_image-requires
log_image-requires g c =
    let i = c.self.inside in
    let o = (g.D.Disk.disk c.args.disk.now).content in
    image_asked o (standing i.file i.leaves i.imaged) c.args.block (subst (λ (x : Standing). IfSome o (IsHeld x)) (sym c.self.view_is) c.requires.held)

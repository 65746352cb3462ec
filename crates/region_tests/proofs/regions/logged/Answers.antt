use Rattle.std.proofs.Common.{Option, sym, ap, subst}
use Rattle.std.specs.Prelude.{IfSome}
use Rattle.disk_defs.specs.Disk.{Files}
use Rattle.region_store.specs.Region.{Standing, IsHeld}
use Rattle.region_tests.proofs.Kept.{marked_held}
use Rattle.region_tests.proofs.regions.logged.Goals as goal

pub returns : goal.returns
returns g c =
    let s = c.args.region.now in
    let read = subst (λ (o : Option Files). IfSome o (IsHeld s)) (sym c.log_changed.ensures.reads.content) c.requires.held in
    record {
      held = marked_held (g.D.Disk.disk c.log_changed.new.disk).content s c.mark_logged.new.self (ap (λ (x : Standing). x.file) c.mark_logged.ensures.marks) c.mark_logged.ensures.holds read;
      logged = c.mark_logged.ensures.logged;
    }

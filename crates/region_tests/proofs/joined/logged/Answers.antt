use Rattle.std.proofs.Common.{Option, sym, ap, subst}
use Rattle.std.specs.Prelude.{IfSome}
use Rattle.disk_defs.specs.Disk.{Files}
use Rattle.region_store.specs.Region.{Standing, IsHeld}
use Rattle.region_store.specs.Joined.{region_at}
use Rattle.region_tests.proofs.Kept.{marked_held}
use Rattle.region_tests.proofs.joined.logged.Goals as goal

pub returns-clause-held : goal.returns-clause-held
returns-clause-held g c =
    let s = region_at c.args.regions.now c.args.number in
    let t = region_at c.mark_logged.new.self c.args.number in
    let read = subst (λ (o : Option Files). IfSome o (IsHeld s)) (sym c.log_changed.ensures.reads.content) c.requires.held in
    marked_held (g.D.Disk.disk c.log_changed.new.disk).content s t (ap (λ (x : Standing). x.file) c.mark_logged.ensures.marks) c.mark_logged.ensures.holds read

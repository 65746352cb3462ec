use Rattle.std.proofs.Common.{Option, sym, subst}
use Rattle.std.specs.Prelude.{IfSome}
use Rattle.disk_defs.specs.Disk.{Files, OnFile}
use Rattle.region_store.specs.Region.{IsHeld, IsCutShort}
use Rattle.region_tests.proofs.Kept.{flushed_held, file_still}
use Rattle.region_tests.proofs.regions.flush_again.Goals as goal

pub flush-requires-clause-held : goal.flush-requires-clause-held
flush-requires-clause-held g c = subst (λ (o : Option Files). IfSome o (IsHeld c.logged.new.region)) (sym c.fuse.ensures.reads.content) c.in_ok-logged.ensures.held

pub flush-requires-2-clause-held : goal.flush-requires-2-clause-held
flush-requires-2-clause-held g c =
    let view = g.D.Disk.disk in
    let t = c.logged.new.region in
    let f = c.flush.new.self in
    let fused = subst (λ (o : Option Files). IfSome o (IsHeld t)) (sym c.fuse.ensures.reads.content) c.in_ok-logged.ensures.held in
    let still = file_still c.flush.result t f c.flush.ensures.ok c.flush.ensures.err in
    subst (λ (o : Option Files). IfSome o (IsHeld f)) (sym c.fuse-2.ensures.reads.content)
    (flushed_held (view c.fuse.new.self).content (view c.flush.new.disk).content t f (OnFile t.file (IsCutShort t)) c.flush.ensures.content still c.flush.ensures.holds fused)

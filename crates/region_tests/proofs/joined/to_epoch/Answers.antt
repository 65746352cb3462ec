use Rattle.std.proofs.Common.{ap}
use Rattle.disk_defs.specs.Disk.{OnFile}
use Rattle.region_store.specs.Region.{Standing, IsCutShort}
use Rattle.region_store.specs.Joined.{region_at}
use Rattle.region_tests.proofs.Kept.{flushed_held, begun_held}
use Rattle.region_tests.proofs.joined.to_epoch.Goals as goal

pub returns-clause-held : goal.returns-clause-held
returns-clause-held g c =
    let view = g.D.Disk.disk in
    let n = c.args.number in
    let t = region_at c.logged.new.regions n in
    let f = region_at c.flush.new.self n in
    let after = (view c.flush.new.disk).content in
    let flushed = flushed_held (view c.logged.new.disk).content after t f (OnFile t.file (IsCutShort t)) c.flush.ensures.content (ap (λ (x : Standing). x.file) c.in_ok-flush.ensures.ok) c.flush.ensures.holds c.in_ok-logged.ensures.held in
    begun_held after f (region_at c.begin_epoch.new.self n) (ap (λ (x : Standing). x.file) c.begin_epoch.ensures.begun) c.begin_epoch.ensures.holds flushed

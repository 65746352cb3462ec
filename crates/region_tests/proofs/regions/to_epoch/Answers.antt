use Rattle.std.proofs.Common.{◌∙◌, false, length, replicate, sym, ap, subst}
use Rattle.disk_defs.specs.Disk.{OnFile}
use Rattle.region_store.specs.Region.{Standing, IsFlushed, IsCutShort}
use Rattle.region_store.proofs.Flushes.{is_flushed}
use Rattle.region_tests.proofs.Kept.{flushed_held, begun_held}
use Rattle.region_tests.proofs.regions.to_epoch.Goals as goal

pub begin_epoch-requires : goal.begin_epoch-requires
begin_epoch-requires g c = record {
  flushed = subst IsFlushed (sym c.in_ok-flush.ensures.ok) (is_flushed c.logged.new.region);
  none = c.in_ok-none.ensures ∙ ap (λ (x : Standing). replicate (length x.pool.leaves) false) (sym c.in_ok-flush.ensures.ok);
}

pub returns : goal.returns
returns g c =
    let view = g.D.Disk.disk in
    let t = c.logged.new.region in
    let f = c.flush.new.self in
    let after = (view c.flush.new.disk).content in
    let flushed = flushed_held (view c.logged.new.disk).content after t f (OnFile t.file (IsCutShort t)) c.flush.ensures.content (ap (λ (x : Standing). x.file) c.in_ok-flush.ensures.ok) c.flush.ensures.holds c.in_ok-logged.ensures.held in
    record { held = begun_held after f c.begin_epoch.new.self (ap (λ (x : Standing). x.file) c.begin_epoch.ensures.begun) c.begin_epoch.ensures.holds flushed }

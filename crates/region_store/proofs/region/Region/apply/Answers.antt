use Rattle.std.proofs.Common.{refl, sym, subst}
use Rattle.region_store.specs.Region.{HoldsRegion}
use Rattle.region_store.proofs.Held.{applied}
use Rattle.region_store.proofs.region.Region.apply.Goals as goal

pub returns-clause-holds : goal.returns-clause-holds
returns-clause-holds c e bytes h =
    let s = c.self.inside in
    let t = c.apply_all.new.self in
    applied e bytes (record { file = s.file; globals = s.leaves.globals; pool = s.leaves.pool; imaged = s.imaged }) (record { file = s.file; globals = t.globals; pool = t.pool; imaged = s.imaged }) c.apply_all.ensures.clean refl
    (subst (HoldsRegion e bytes) (sym c.self.view_is) h)

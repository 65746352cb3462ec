use Rattle.std.proofs.Common.{refl, subst}
use Rattle.gvt_leaf.proofs.Made.{keeps_same}
use Rattle.region_store.specs.Region.{Standing, IsSameRegion, IsChanged}
use Rattle.region_store.proofs.Held.{changed_is}
use Rattle.region_store.proofs.region.Region.reserve.Goals as goal

pub returns-clause-same : goal.returns-clause-same
returns-clause-same c =
    let s = c.self.inside in
    let t = c.reserve.new.self in
    let new : Standing = record { file = s.file; globals = t.globals; pool = t.pool; imaged = s.imaged } in
    subst (λ (old : Standing). IsSameRegion old new) c.self.view_is (record { file = refl; stored = c.reserve.ensures.same; imaged = refl })

pub returns-clause-changed : goal.returns-clause-changed
returns-clause-changed c =
    let s = c.self.inside in
    let t = c.reserve.new.self in
    let new : Standing = record { file = s.file; globals = t.globals; pool = t.pool; imaged = s.imaged } in
    subst (λ (old : Standing). IsChanged old new) c.self.view_is
    (changed_is (record { file = s.file; globals = s.leaves.globals; pool = s.leaves.pool; imaged = s.imaged }) new (keeps_same s.leaves.pool t.pool c.reserve.ensures.same.leaves c.reserve.ensures.same.dirty) refl refl)

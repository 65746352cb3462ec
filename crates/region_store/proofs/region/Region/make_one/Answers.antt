use Rattle.std.proofs.Common.{refl, subst}
use Rattle.region_store.specs.Region.{Standing, IsChanged}
use Rattle.region_store.proofs.Held.{changed_is}
use Rattle.region_store.proofs.region.Region.make_one.Goals as goal

pub returns-clause-changed : goal.returns-clause-changed
returns-clause-changed c =
    let s = c.self.inside in
    let t = c.make_one.new.self in
    let new : Standing = record { file = s.file; globals = t.globals; pool = t.pool; imaged = s.imaged } in
    subst (λ (old : Standing). IsChanged old new) c.self.view_is
    (changed_is (record { file = s.file; globals = s.leaves.globals; pool = s.leaves.pool; imaged = s.imaged }) new c.make_one.ensures.clean refl refl)

use Rattle.std.proofs.Common.{◌≡◌, inl, inr, ℕ, [], ◌∷◌, Some, refl, ap, arith}
use Rattle.global_defs.specs.Entry.{Stamp, Reign}
use Rattle.lineage_defs.specs.Histories.{StampsChange}
use Rattle.lineage_defs.specs.Events.{Adopts}
use Rattle.lineage_defs.specs.Samples.{A, B, stamp, reign}
use Rattle.lineage_defs.proofs.cases.reigns_begin_once.Goals as goal

again : StampsChange (reign A 1 1 ∷ reign A 1 2 ∷ []) → ⊥
again changes = changes.0 refl

early : Adopts 1 (stamp B 2) (reign A 1 1 ∷ []) (reign A 1 1 ∷ reign B 2 1 ∷ []) → ⊥
early adopts = elim adopts [
  | inl on ↦
      let stamps : Some (stamp A 1) ≡ Some (stamp B 2) = on.0 in
      let same : stamp A 1 ≡ stamp B 2 = cc in
      let cycles : ◌≡◌ {A = ℕ} 1 2 = ap (λ (s : Stamp). s.cycle) same in
      omega arith
  | inr begun ↦
      let reigns : reign A 1 1 ∷ reign B 2 1 ∷ [] ≡ reign A 1 1 ∷ reign B 2 2 ∷ [] = begun.1 in
      let rest : reign B 2 1 ∷ [] ≡ reign B 2 2 ∷ [] = cc in
      let same : reign B 2 1 ≡ reign B 2 2 = cc in
      let starts : ◌≡◌ {A = ℕ} 1 2 = ap (λ (r : Reign). r.start) same in
      omega arith
]

pub returns : goal.returns
returns c = record { early = early; again = again; history = λ h. again h.changes }

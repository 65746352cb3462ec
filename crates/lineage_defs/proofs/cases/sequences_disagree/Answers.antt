use Rattle.std.proofs.Common.{◌≡◌, ℕ, [], ◌∷◌, refl, ap, arith}
use Rattle.global_defs.specs.Entry.{Entry}
use Rattle.global_defs.specs.Rising.{SerialsRise}
use Rattle.lineage_defs.specs.Lineage.{Agree}
use Rattle.lineage_defs.specs.Samples.{A, entry}
use Rattle.lineage_defs.proofs.cases.sequences_disagree.Goals as goal

differ : Agree (entry A 1 1 ∷ entry A 3 1 ∷ []) (entry A 2 1 ∷ entry A 3 1 ∷ []) → ⊥
differ agree =
    let fronts : entry A 1 1 ∷ entry A 3 1 ∷ [] ≡ entry A 2 1 ∷ entry A 3 1 ∷ [] = agree 1 (entry A 3 1) (entry A 3 1) refl refl refl in
    let same : entry A 1 1 ≡ entry A 2 1 = cc in
    let cycles : ◌≡◌ {A = ℕ} 1 2 = ap (λ (x : Entry). x.stamp.cycle) same in
    omega arith

again : SerialsRise (entry A 1 1 ∷ entry A 1 1 ∷ []) → ⊥
again rise = let low = rise 0 1 (entry A 1 1) (entry A 1 1) (omega arith) refl refl refl refl in omega arith

pub returns : goal.returns
returns c = record { differ = differ; again = again }

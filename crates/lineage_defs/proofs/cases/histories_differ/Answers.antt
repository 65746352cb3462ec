use Rattle.std.proofs.Common.{◌≡◌, inl, inr, ℕ, List, [], ◌∷◌, Some, refl, ap, arith}
use Rattle.global_defs.specs.Entry.{Stamp}
use Rattle.global_defs.specs.Prefix.{History}
use Rattle.lineage_defs.specs.Histories.{BothHave, IsCommonOf}
use Rattle.lineage_defs.specs.Samples.{A, B, reign, stamp}
use Rattle.lineage_defs.proofs.cases.histories_differ.Goals as goal

abbrev one : History
one = record { length = 2; reigns = reign A 1 1 ∷ reign A 2 2 ∷ [] }

abbrev other : History
other = record { length = 2; reigns = reign A 1 1 ∷ reign B 2 2 ∷ [] }

none : IsCommonOf 0 one other → ⊥
none c = c.greatest 1 (omega arith) (omega arith) (omega arith) (stamp A 1, refl, refl)

parts : BothHave 2 one.reigns other.reigns → ⊥
parts have =
    let first : Some (stamp A 2) ≡ Some have.0 = have.1 in
    let second : Some (stamp B 2) ≡ Some have.0 = have.2 in
    let same : stamp A 2 ≡ stamp B 2 = cc in
    let roots : ◌≡◌ {A = List ℕ} (65 ∷ []) (66 ∷ []) = ap (λ (x : Stamp). x.root) same in
    let heads : ◌≡◌ {A = ℕ} 65 66 = cc in
    omega arith

two : IsCommonOf 2 one other → ⊥
two c = elim c.same [
  | inl zero_is ↦ omega arith
  | inr have ↦ parts have
]

pub returns : goal.returns
returns c = record { none = none; two = two }

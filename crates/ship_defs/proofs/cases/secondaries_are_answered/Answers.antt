use Rattle.std.proofs.Common.{◌≡◌, inl, inr, ℕ, List, [], ◌∷◌, Some, refl, ap, subst, arith}
use Rattle.global_defs.specs.Entry.{Stamp, Reign}
use Rattle.lineage_defs.specs.Histories.{BothHave}
use Rattle.lineage_defs.specs.Samples.{A, B, reign, stamp}
use Rattle.ship_defs.proofs.cases.secondaries_are_answered.Goals as goal

abbrev theirs : List Reign
theirs = reign A 1 1 ∷ []

abbrev mine : List Reign
mine = reign A 1 1 ∷ reign B 2 2 ∷ []

parted : BothHave 2 theirs mine → ⊥
parted have =
    let first : Some (stamp A 1) ≡ Some have.0 = have.1 in
    let second : Some (stamp B 2) ≡ Some have.0 = have.2 in
    let same : stamp A 1 ≡ stamp B 2 = cc in
    let cycles : ◌≡◌ {A = ℕ} 1 2 = ap (λ (s : Stamp). s.cycle) same in
    omega arith

pub returns-clause-back : goal.returns-clause-back
returns-clause-back c = (
  1,
  record {
    in_first = omega arith;
    in_second = omega arith;
    same = inr (stamp A 1, refl, refl);
    greatest = λ n past of_theirs of_mine have. (let two : n ≡ 2 = omega arith in parted (subst (λ (k : ℕ). BothHave k theirs mine) two have));
  },
  omega arith,
  refl,
)

pub returns-clause-parted : goal.returns-clause-parted
returns-clause-parted c = λ n answer. elim answer.0.same [
  | inl none ↦ (let zero_is : ◌≡◌ {A = ℕ} 2 0 = none in omega arith)
  | inr have ↦ parted have
]

-- Calls that change one region after another.
use Rattle.std.proofs.Common.{◌≡◌, ◌≤◌, ◌<◌, ◌+◌, ℕ, length, inl, inr, refl, sym, ◌∙◌, ap, subst, arith}
use Rattle.std.proofs.lemmas.Bool.{cases_eq}
use Rattle.region_store.specs.Region.{Standing}
use Rattle.region_store.specs.Joined.{Joined, IsSameElsewhere, region_at}
use Rattle.region_store.proofs.Making.{region_elsewhere}
use Rattle.region_epochs.specs.Taken.{HasSameNodes}

pub none_yet : (j : Joined) → HasSameNodes j j
none_yet j = record { patterns = refl; count = refl; parts = refl; files = λ r. refl }

-- one region more, whose file is the same
pub nodes_then : (number : ℕ) (old mid new : Joined) → HasSameNodes old mid → IsSameElsewhere number mid new → (region_at new number).file ≡ (region_at mid number).file → HasSameNodes old new
nodes_then number old mid new so_far same file = record {
  patterns = same.patterns ∙ so_far.patterns;
  count = same.count ∙ so_far.count;
  parts = same.parts ∙ so_far.parts;
  files = λ r. file_at r ∙ so_far.files r;
}
  where
    file_at : (r : ℕ) → (region_at new r).file ≡ (region_at mid r).file
    file_at r = elim (cases_eq r number) [
      | inl here ↦ subst (λ (q : ℕ). (region_at new q).file ≡ (region_at mid q).file) (sym here) file
      | inr other ↦ ap (λ (s : Standing). s.file) (region_elsewhere number mid new same r other)
    ]

-- A call has made Q of the first k regions, and nothing of the others yet.
pub record AreLifted (Q : ℕ → Standing → Standing → Type 0) (k : ℕ) (old new : Joined) : Type 0 where
  pub done : (r : ℕ) → r < k → Q r (region_at old r) (region_at new r)
  pub left : (r : ℕ) → k ≤ r → region_at new r ≡ region_at old r

pub none_lifted : (Q : ℕ → Standing → Standing → Type 0) (j : Joined) → AreLifted Q 0 j j
none_lifted Q j = record { done = λ r low. absurd (omega (arith, low)); left = λ r far. refl }

pub one_lifted : (Q : ℕ → Standing → Standing → Type 0) (k : ℕ) (old mid new : Joined) → AreLifted Q k old mid → IsSameElsewhere k mid new → Q k (region_at mid k) (region_at new k) → AreLifted Q (k + 1) old new
one_lifted Q k old mid new so_far same here = record {
  done = λ r low. elim (cases_eq r k) [
    | inl is ↦ subst (λ (q : ℕ). Q q (region_at old q) (region_at new q)) (sym is) (subst (λ (s : Standing). Q k s (region_at new k)) (so_far.left k (omega arith)) here)
    | inr other ↦ subst (Q r (region_at old r)) (sym (region_elsewhere k mid new same r other)) (so_far.done r (omega (arith, low, other)))
  ];
  left = λ r far. region_elsewhere k mid new same r (λ is. omega (arith, is, far)) ∙ so_far.left r (omega (arith, far));
}

-- A call has made Q of all regions but the first k, and nothing of these yet.
pub record AreLowered (Q : Standing → Standing → Type 0) (k : ℕ) (old new : Joined) : Type 0 where
  pub done : (r : ℕ) → k ≤ r → r < length old.regions → Q (region_at old r) (region_at new r)
  pub left : (r : ℕ) → r < k → region_at new r ≡ region_at old r

pub none_lowered : (Q : Standing → Standing → Type 0) (k : ℕ) (j : Joined) → length j.regions ≤ k → AreLowered Q k j j
none_lowered Q k j all = record { done = λ r far low. absurd (omega (arith, far, low, all)); left = λ r low. refl }

pub one_lowered : (Q : Standing → Standing → Type 0) (k : ℕ) (old mid new : Joined) → AreLowered Q (k + 1) old mid → IsSameElsewhere k mid new → Q (region_at mid k) (region_at new k) → AreLowered Q k old new
one_lowered Q k old mid new so_far same here = record {
  done = λ r far low. elim (cases_eq r k) [
    | inl is ↦ subst (λ (q : ℕ). Q (region_at old q) (region_at new q)) (sym is) (subst (λ (s : Standing). Q s (region_at new k)) (so_far.left k (omega arith)) here)
    | inr other ↦ subst (Q (region_at old r)) (sym (region_elsewhere k mid new same r other)) (so_far.done r (omega (arith, far, other)) low)
  ];
  left = λ r low. region_elsewhere k mid new same r (λ is. omega (arith, is, low)) ∙ so_far.left r (omega (arith, low));
}

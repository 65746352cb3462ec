-- Each moment of calls that go over the regions.
use Rattle.std.proofs.Common.{◌≡◌, ◌≤◌, ◌<◌, ℕ, List, inl, inr, sym, ◌∙◌, subst, arith}
use Rattle.std.proofs.lemmas.Bool.{cases_eq}
use Rattle.global_defs.specs.declared.limits.TheConstants.{MOST_REGIONS}
use Rattle.disk_defs.specs.Disk.{Files, View, IsLawful, AtEachMoment}
use Rattle.disk_defs.specs.Frames.{Only, OnlyIn, OnlyOn, IsWithin, OthersStay}
use Rattle.disk_defs.proofs.Frames.{others_then, others_wider}
use Rattle.disk_defs.proofs.Moments.{only_then}
use Rattle.journal_defs.specs.Numbers.{journal_file}
use Rattle.region_journals.specs.Fronts.{IsNewestFile}

-- each region's file has N
abbrev pub Have : ℕ → ℕ → (ℕ → List ℕ → Type 0) → Files → Type 0
Have g n N c = (r : ℕ) → r < n → N r (c (journal_file g r))

within : (g n k file : ℕ) → k < n → file ≡ journal_file g k → IsWithin (Only file) (IsNewestFile g n)
within g n k file there is f same = record { region = k; inside = there; is = same ∙ is }

module _ (u v w : View) (g n k file : ℕ) (few : n ≤ MOST_REGIONS) (there : k < n) (is : file ≡ journal_file g k) where
  -- a call more at one region's file
  pub moments_on : (N : ℕ → List ℕ → Type 0) → IsLawful v → AtEachMoment u v (OnlyIn u (IsNewestFile g n) (Have g n N)) → AtEachMoment v w (OnlyOn v file (N k)) → AtEachMoment u w (OnlyIn u (IsNewestFile g n) (Have g n N))
  moments_on N lawful so_far call =
      only_then u v w (IsNewestFile g n) (Only file) (Have g n N) (λ c. N k (c file)) lawful (within g n k file there is) so_far call
      (λ d c was have same here r low. elim (cases_eq r k) [
        | inl e ↦ subst (λ (q : ℕ). N q (c (journal_file g q))) (sym e) (subst (λ (f : ℕ). N k (c f)) is here)
        | inr other ↦ subst (N r) (sym (same (journal_file g r) (λ e. other (omega (arith, e, is, low, there, few))))) (have r low)
      ])

  pub frame_on : OthersStay (IsNewestFile g n) u v → OthersStay (Only file) v w → OthersStay (IsNewestFile g n) u w
  frame_on so_far call = others_then (IsNewestFile g n) u v w so_far (others_wider (Only file) (IsNewestFile g n) v w (within g n k file there is) call)

-- A fact of each seat's view, after one view changed, and with one view more.
use Rattle.std.proofs.Common.{◌≡◌, ◌≢◌, ℕ, List, [], ◌∷◌, ◌++◌, set, sym, subst, ⊎_elim}
use mathlib.Core.Option.{some}
use lib.ListN.{get_elem?}
use Rattle.atomic_table.proofs.Lists.{at_set, at_snoc}
use Rattle.pool_rule.specs.Rule.{Each}

module _ {V : Type 0} (Q : ℕ → V → Type 0) where
  pub each_set : (views : List V) (by : ℕ) (w : V) → ((j : ℕ) (u : V) → j ≢ by → get_elem? views j ≡ some u → Q j u) → Q by w → (j : ℕ) (u : V) → get_elem? (set views by w) j ≡ some u → Q j u
  each_set views by w others mine j u e =
      ⊎_elim
      (λ (x : (j ≡ by) × (w ≡ u)). subst (λ (y : ℕ × V). Q y.0 y.1) (λ i. (sym x.0 i, x.1 i)) mine)
      (λ (x : (j ≢ by) × (get_elem? views j ≡ some u)). others j u x.0 x.1)
      (at_set views by j w u e)

  pub each_snoc : (views : List V) (w : V) → ((j : ℕ) (u : V) → get_elem? views j ≡ some u → Q j u) → ((j : ℕ) → Q j w) → (j : ℕ) (u : V) → get_elem? (views ++ w ∷ []) j ≡ some u → Q j u
  each_snoc views w others new j u e =
      ⊎_elim
      (λ (x : get_elem? views j ≡ some u). others j u x)
      (λ (x : w ≡ u). subst (Q j) x (new j))
      (at_snoc views w u j e)

module _ {A : Type 0} where
  pub each_map : (P Q : A → Type 0) → ((x : A) → P x → Q x) → (xs : List A) → Each P xs → Each Q xs
  each_map P Q f [] e = tt
  each_map P Q f (x ∷ xs) e = (f x e.0, each_map P Q f xs e.1)

  pub each_append : (P : A → Type 0) (xs ys : List A) → Each P xs → Each P ys → Each P (xs ++ ys)
  each_append P [] ys a b = b
  each_append P (x ∷ xs) ys a b = (a.0, each_append P xs ys a.1 b)

  pub each_snoc_one : (P : A → Type 0) (xs : List A) (y : A) → Each P xs → P y → Each P (xs ++ y ∷ [])
  each_snoc_one P xs y a b = each_append P xs (y ∷ []) a (b, tt)

  pub each_last : (P : A → Type 0) (xs : List A) (y : A) → Each P (xs ++ y ∷ []) → P y
  each_last P [] y e = e.0
  each_last P (x ∷ xs) y e = each_last P xs y e.1

  pub each_within : (P : A → Type 0) (xs : List A) (y : A) (ys : List A) → Each P (xs ++ y ∷ ys) → P y
  each_within P [] y ys e = e.0
  each_within P (x ∷ xs) y ys e = each_within P xs y ys e.1

-- How two numbers compare, by cases, and comparisons one after another.
use Rattle.std.proofs.Common.{◌≡◌, ℕ, ◌<◌, refl, sym, ◌∙◌, arith, inl, inr}
use Rattle.std.specs.declared.cmp.Ordering.{Ordering}
use Rattle.std.specs.declared.cmp.Ordering.TheVariants.{Less, Equal, Greater}
use Rattle.std.specs.Ordering.{nat_cmp, ordering_then}
use Rattle.std.specs.Cmp.{nat_cmp_is}
use Rattle.std.proofs.lemmas.Bool.{cases_lt}

pub data Ranks (x y : ℕ) : Type 0 where
  below : x < y → nat_cmp x y ≡ Less → Ranks x y
  same : x ≡ y → nat_cmp x y ≡ Equal → Ranks x y
  above : y < x → nat_cmp x y ≡ Greater → Ranks x y

pub less : (x y : ℕ) → x < y → nat_cmp x y ≡ Less
less x y h = sym (nat_cmp_is x y Less h)

pub equal : (x y : ℕ) → x ≡ y → nat_cmp x y ≡ Equal
equal x y h = sym (nat_cmp_is x y Equal h)

pub greater : (x y : ℕ) → y < x → nat_cmp x y ≡ Greater
greater x y h = sym (nat_cmp_is x y Greater h)

pub ranks : (x y : ℕ) → Ranks x y
ranks x y = elim (cases_lt x y) [
  | inl h ↦ below h (less x y h)
  | inr h ↦ elim (cases_lt y x) [
    | inl g ↦ above g (greater x y g)
    | inr g ↦ let e : x ≡ y = omega arith in same e (equal x y e)
  ]
]

pub then_equal : (a : Ordering) → ordering_then a Equal ≡ a
then_equal Less = refl
then_equal Equal = refl
then_equal Greater = refl

pub then_then : (a b c : Ordering) → ordering_then (ordering_then a b) c ≡ ordering_then a (ordering_then b c)
then_then Less b c = refl
then_then Equal b c = refl
then_then Greater b c = refl

-- two pairs of numbers that stand in the same order
pub agree : (x y u v : ℕ) → (x < y → u < v) → (x ≡ y → u ≡ v) → (y < x → v < u) → nat_cmp u v ≡ nat_cmp x y
agree x y u v p q r = elim (ranks x y) [
  | below h e ↦ less u v (p h) ∙ sym e
  | same h e ↦ equal u v (q h) ∙ sym e
  | above h e ↦ greater u v (r h) ∙ sym e
]

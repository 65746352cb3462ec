-- Reigns that begin within some numbers.
use Rattle.std.proofs.Common.{◌≡◌, ◌⊎◌, inl, inr, ℕ, ◌<◌, ◌≤◌, nat_le, nat_lt, Bool, true, false, List, [], ◌∷◌, ◌++◌, refl, sym, ap, ◌∙◌, arith}
use Rattle.std.specs.Prelude.{filter}
use Rattle.std.proofs.lemmas.Bool.Decides.{nat_tests}
use Rattle.global_defs.specs.Entry.{Reign}
use Rattle.global_defs.specs.Rising.{StartsRise, begun_by}
use Rattle.lineage_defs.specs.Histories.{begun_within}

begun_low : (n low : ℕ) (rs : List Reign) → StartsRise low rs → n ≤ low → begun_by n rs ≡ []
begun_low n low [] rise le = refl
begun_low n low (r ∷ rs) rise le =
    let more = rise.0 in
    let is : nat_le r.start n ≡ false = grind (arith, nat_tests) in
    rw is (begun_low n r.start rs rise.1 (omega (arith, more, le)))

-- a test of each of two numbers by which a reign begins or not
module _ (m n : ℕ) (r : Reign) (rs : List Reign) where
  pub within_past : n < r.start → begun_within m n (r ∷ rs) ≡ begun_within m n rs
  within_past past = let is : nat_le r.start n ≡ false = grind (arith, nat_tests) in rw is refl

  within_before_of : (b : Bool) → nat_le r.start n ≡ b → nat_lt m r.start ≡ false → begun_within m n (r ∷ rs) ≡ begun_within m n rs
  within_before_of true is out = rw (is, out) refl
  within_before_of false is out = rw is refl

  pub within_before : r.start ≤ m → begun_within m n (r ∷ rs) ≡ begun_within m n rs
  within_before before = let out : nat_lt m r.start ≡ false = grind (arith, nat_tests) in within_before_of (nat_le r.start n) refl out

  pub within_here : m < r.start → r.start ≤ n → begun_within m n (r ∷ rs) ≡ r ∷ begun_within m n rs
  within_here past by =
      let is : nat_le r.start n ≡ true = grind (arith, nat_tests) in
      let in_it : nat_lt m r.start ≡ true = grind (arith, nat_tests) in
      rw (is, in_it) refl

two : (a b : ℕ) → (a ≤ b) ⊎ (b < a)
two a b = grind arith

pub within_same : (k : ℕ) (rs : List Reign) → begun_within k k rs ≡ []
within_same k [] = refl
within_same k (r ∷ rs) = elim (two r.start k) [
  | inl before ↦ within_before k k r rs before ∙ within_same k rs
  | inr past ↦ within_past k k r rs past ∙ within_same k rs
]

within_low : (m n low : ℕ) (rs : List Reign) → StartsRise low rs → n ≤ low → begun_within m n rs ≡ []
within_low m n low rs rise le = ap (λ (l : List Reign). filter (λ r. nat_lt m r.start) l) (begun_low n low rs rise le)

pub within_on : (a b c low : ℕ) (rs : List Reign) → StartsRise low rs → a ≤ b → b ≤ c → begun_within a b rs ++ begun_within b c rs ≡ begun_within a c rs
within_on a b c low [] rise ab bc = refl
within_on a b c low (r ∷ rs) rise ab bc =
    let later = within_on a b c r.start rs rise.1 ab bc in
    elim (two r.start a) [
      | inl first ↦ ap (λ (l : List Reign). l ++ begun_within b c (r ∷ rs)) (within_before a b r rs first)
          ∙ (ap (λ (l : List Reign). begun_within a b rs ++ l) (within_before b c r rs (omega (arith, first, ab))) ∙ (later ∙ sym (within_before a c r rs first)))
      | inr past_a ↦ elim (two r.start b) [
        | inl by_b ↦ ap (λ (l : List Reign). l ++ begun_within b c (r ∷ rs)) (within_here a b r rs past_a by_b)
            ∙ (ap (λ (l : List Reign). r ∷ (begun_within a b rs ++ l)) (within_before b c r rs by_b)
            ∙ (ap (λ (l : List Reign). r ∷ l) later ∙ sym (within_here a c r rs past_a (omega (arith, by_b, bc)))))
        | inr past_b ↦ (
            let none : begun_within a b rs ≡ [] = within_low a b r.start rs rise.1 (omega (arith, past_b)) in
            let rest : begun_within b c rs ≡ begun_within a c rs = sym (ap (λ (l : List Reign). l ++ begun_within b c rs) none) ∙ later in
            ap (λ (l : List Reign). l ++ begun_within b c (r ∷ rs)) (within_past a b r rs past_b ∙ none)
            ∙ elim (two r.start c) [
              | inl by_c ↦ within_here b c r rs past_b by_c ∙ (ap (λ (l : List Reign). r ∷ l) rest ∙ sym (within_here a c r rs past_a by_c))
              | inr past_c ↦ within_past b c r rs past_c ∙ (rest ∙ sym (within_past a c r rs past_c))
            ])
      ]
    ]

-- What is left of a line without its ignored end.
use Rattle.std.proofs.Common.{◌≡◌, ◌≢◌, ℕ, zero, suc, List, [], ◌∷◌, ◌++◌, replicate, refl, sym, ap, ◌∙◌, subst, inl, inr, append_assoc, arith}
use Rattle.std.proofs.lemmas.Bool.Decides.{eqb_tells, nat_tests}
use Rattle.command_defs.specs.Parts.{with_byte, before_spaces, before_return, trimmed}
use Rattle.command_defs.specs.Spelling.{IsEnded, blank, blank_return, spaces, carriage}

-- A text is spaces alone, or has a last byte that is none.
data Ending : List ℕ → Type 0 where
  none : (n : ℕ) → Ending (replicate n 32)
  byte : (front : List ℕ) (b n : ℕ) → b ≢ 32 → Ending (front ++ b ∷ replicate n 32)

longer : (c : ℕ) {t : List ℕ} → Ending t → Ending (c ∷ t)
longer c (none n) = elim (eqb_tells c 32) [
  | inl same ↦ subst (λ x. Ending (x ∷ replicate n 32)) (sym same.1) (none (suc n))
  | inr other ↦ byte [] c n other.1
]
longer c (byte front b n ne) = byte (c ∷ front) b n ne

ending : (t : List ℕ) → Ending t
ending [] = none 0
ending (c ∷ cs) = longer c (ending cs)

no_spaces : (n : ℕ) → before_spaces (replicate n 32) ≡ []
no_spaces zero = refl
no_spaces (suc n) = ap (with_byte 32) (no_spaces n)

alone : (b : ℕ) → b ≢ 32 → with_byte b [] ≡ b ∷ []
alone b ne = grind (arith, nat_tests)

pub up_to_byte : (front : List ℕ) (b n : ℕ) → b ≢ 32 → before_spaces (front ++ b ∷ replicate n 32) ≡ front ++ b ∷ []
up_to_byte [] b n ne = ap (with_byte b) (no_spaces n) ∙ alone b ne
up_to_byte (c ∷ []) b n ne = ap (with_byte c) (up_to_byte [] b n ne)
up_to_byte (c ∷ d ∷ ds) b n ne = ap (with_byte c) (up_to_byte (d ∷ ds) b n ne)

pub return_gone : (front : List ℕ) → before_return (front ++ 13 ∷ []) ≡ front
return_gone [] = refl
return_gone (b ∷ []) = refl
return_gone (b ∷ c ∷ cs) = ap (λ (x : List ℕ). b ∷ x) (return_gone (c ∷ cs))

pub other_stays : (front : List ℕ) (x : ℕ) → x ≢ 13 → before_return (front ++ x ∷ []) ≡ front ++ x ∷ []
other_stays [] x ne = grind (arith, nat_tests)
other_stays (b ∷ []) x ne = ap (λ (y : List ℕ). b ∷ y) (other_stays [] x ne)
other_stays (b ∷ c ∷ cs) x ne = ap (λ (y : List ℕ). b ∷ y) (other_stays (c ∷ cs) x ne)

-- what is trimmed is ended so

behind_return : (n : ℕ) {front : List ℕ} → Ending front → IsEnded (before_spaces front) (front ++ 13 ∷ replicate n 32)
behind_return n (none k) = subst (λ t. IsEnded t (replicate k 32 ++ 13 ∷ replicate n 32)) (sym (no_spaces k)) (blank_return k n)
behind_return n (byte f c k ne) = subst (λ t. IsEnded t ((f ++ c ∷ replicate k 32) ++ 13 ∷ replicate n 32)) (sym (up_to_byte f c k ne))
    (subst (λ t. IsEnded (f ++ c ∷ []) t) (sym (append_assoc f (c ∷ replicate k 32) (13 ∷ replicate n 32))) (carriage f c k n ne))

trimmed_so : {line : List ℕ} → Ending line → IsEnded (trimmed line) line
trimmed_so (none n) = subst (λ t. IsEnded (before_spaces (before_return t)) (replicate n 32)) (sym (no_spaces n)) (blank n)
trimmed_so (byte front b n ne) = subst (λ t. IsEnded (before_spaces (before_return t)) (front ++ b ∷ replicate n 32)) (sym (up_to_byte front b n ne))
    (elim (eqb_tells b 13) [
      | inl same ↦ subst (λ x. IsEnded (before_spaces (before_return (front ++ x ∷ []))) (front ++ x ∷ replicate n 32)) (sym same.1)
          (subst (λ t. IsEnded (before_spaces t) (front ++ 13 ∷ replicate n 32)) (sym (return_gone front)) (behind_return n (ending front)))
      | inr other ↦ subst (λ t. IsEnded (before_spaces t) (front ++ b ∷ replicate n 32)) (sym (other_stays front b other.1))
          (subst (λ t. IsEnded t (front ++ b ∷ replicate n 32)) (sym (up_to_byte front b 0 ne)) (spaces front b n ne other.1))
    ])

pub trimmed_found : (line : List ℕ) → IsEnded (trimmed line) line
trimmed_found line = trimmed_so (ending line)

-- what is ended so is trimmed to it

return_cut : (front : List ℕ) (n : ℕ) → trimmed (front ++ 13 ∷ replicate n 32) ≡ before_spaces front
return_cut front n = ap (λ (t : List ℕ). before_spaces (before_return t)) (up_to_byte front 13 n (λ e. omega (arith, e))) ∙ ap before_spaces (return_gone front)

pub trimmed_only : {text line : List ℕ} → IsEnded text line → trimmed line ≡ text
trimmed_only (blank n) = ap (λ (t : List ℕ). before_spaces (before_return t)) (no_spaces n)
trimmed_only (blank_return n m) = return_cut (replicate n 32) m ∙ no_spaces n
trimmed_only (spaces front b n ne other) = ap (λ (t : List ℕ). before_spaces (before_return t)) (up_to_byte front b n ne) ∙ (ap before_spaces (other_stays front b other) ∙ up_to_byte front b 0 ne)
trimmed_only (carriage front b n m ne) = ap trimmed (sym (append_assoc front (b ∷ replicate n 32) (13 ∷ replicate m 32))) ∙ (return_cut (front ++ b ∷ replicate n 32) m ∙ up_to_byte front b n ne)

before_twice : {t : List ℕ} → Ending t → before_spaces (before_spaces t) ≡ before_spaces t
before_twice (none n) = ap before_spaces (no_spaces n) ∙ sym (no_spaces n)
before_twice (byte front b n ne) = ap before_spaces (up_to_byte front b n ne) ∙ (up_to_byte front b 0 ne ∙ sym (up_to_byte front b n ne))

-- no space is left at the end
pub trimmed_tight : (line : List ℕ) → before_spaces (trimmed line) ≡ trimmed line
trimmed_tight line = before_twice (ending (before_return (before_spaces line)))

-- a space at the end goes
pub space_gone : (front : List ℕ) → before_spaces (front ++ 32 ∷ []) ≡ before_spaces front
space_gone [] = refl
space_gone (b ∷ bs) = ap (with_byte b) (space_gone bs)

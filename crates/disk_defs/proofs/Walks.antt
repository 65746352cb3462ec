-- Going over a gated file from gate to gate gives its records.
use Rattle.std.proofs.Common.{◌≡◌, ◌≢◌, inl, inr, ℕ, zero, suc, ◌+◌, ◌≤◌, ◌<◌, Bool, true, false, cond, List, [], ◌∷◌, length, take, drop, Some, None, refl, sym, ◌∙◌, ap, arith, length-drop}
use Rattle.std.proofs.lemmas.Bool.{cases_eq, cases_lt}
use Rattle.std.proofs.lemmas.Bool.Decides.{nat_tests}
use Rattle.std.specs.Option.{option_map}
use Rattle.std.specs.Int.{from_be_bytes, w32}
use Rattle.disk_defs.specs.Gates.{Body, Gate, Open, Shut, NoGate, fits, behind, gate_of, gate_at, bodies_from, bodies_within, bodies_at, records}

-- what stands behind an open gate is shorter
chosen_shorter : (b : Bool) (n : ℕ) (r : List ℕ) (body : Body) (rest : List ℕ) → cond b (Open (take n (drop 4 r)) (drop (4 + n) r)) NoGate ≡ Open body rest → length rest ≤ length r
chosen_shorter true n r body rest is =
    let same : drop (4 + n) r ≡ rest = cc is in
    omega (arith, ap length same, length-drop (4 + n) r)
chosen_shorter false n r body rest is = absurd (cc is)

pub open_shorter : (bytes : List ℕ) (body : Body) (rest : List ℕ) → gate_of bytes ≡ Open body rest → length rest < length bytes
open_shorter [] body rest is = absurd (cc is)
open_shorter (gate ∷ r) body rest is = elim (cases_eq gate 1) [
  | inl opened ↦
      let n = from_be_bytes w32 (take 4 r) in
      let chosen : behind r ≡ Open body rest = ap (λ (g : ℕ). gate_of (g ∷ r)) (sym opened) ∙ is in
      omega (arith, chosen_shorter (fits n r) n r body rest chosen)
  | inr shut ↦ absurd (closed_opens (sym (is_shut gate r shut) ∙ is))
]
  where
    is_shut : (gate : ℕ) (r : List ℕ) → gate ≢ 1 → gate_of (gate ∷ r) ≡ Shut
    is_shut gate r ne = grind (arith, nat_tests)

    closed_opens : Shut ≡ Open body rest → ⊥
    closed_opens is = cc is

-- more turns than bytes give nothing more
pub enough : (m n : ℕ) (bytes : List ℕ) → length bytes ≤ m → length bytes ≤ n → bodies_within m bytes ≡ bodies_within n bytes
enough zero zero bytes low high = refl
enough zero (suc n) [] low high = refl
enough zero (suc n) (b ∷ bytes) low high = absurd (omega arith)
enough (suc m) zero [] low high = refl
enough (suc m) zero (b ∷ bytes) low high = absurd (omega arith)
enough (suc m) (suc n) bytes low high = at_gate (gate_of bytes) (λ body rest is.
    let less = open_shorter bytes body rest is in
    enough m n rest (omega (arith, less, low)) (omega (arith, less, high)))
  where
    at_gate : (g : Gate) → ((body : Body) (rest : List ℕ) → g ≡ Open body rest → bodies_within m rest ≡ bodies_within n rest) → bodies_from (λ r. bodies_within m r) g ≡ bodies_from (λ r. bodies_within n r) g
    at_gate Shut same = refl
    at_gate NoGate same = refl
    at_gate (Open body rest) same = ap (option_map (λ bodies. body ∷ bodies)) (same body rest refl)

pub from_start : (file : List ℕ) → bodies_at file 0 ≡ records file
from_start file = refl

pub short_shut : (file : List ℕ) (at : ℕ) → length file < 2 → gate_at file at ≡ Shut
short_shut file at short = grind (arith, nat_tests)

short_none : (file : List ℕ) (at : ℕ) → length file < 2 → bodies_at file at ≡ Some []
short_none file at short = grind (arith, nat_tests)

pub gate_in : (file : List ℕ) (at : ℕ) → 2 ≤ length file → gate_at file at ≡ gate_of (drop at file)
gate_in file at long = grind (arith, nat_tests)

pub bodies_in : (file : List ℕ) (at n : ℕ) → 2 ≤ length file → length (drop at file) ≤ n → bodies_at file at ≡ bodies_within n (drop at file)
bodies_in file at n long turns = all_turns file at long ∙ enough (length file) n (drop at file) (omega (arith, length-drop at file)) turns
  where
    all_turns : (file : List ℕ) (at : ℕ) → 2 ≤ length file → bodies_at file at ≡ bodies_within (length file) (drop at file)
    all_turns file at long = grind (arith, nat_tests)

-- At a closed gate the list ends.
pub at_shut : (file : List ℕ) (at : ℕ) → gate_at file at ≡ Shut → bodies_at file at ≡ Some []
at_shut file at is = elim (cases_lt (length file) 2) [
  | inl short ↦ short_none file at short
  | inr long ↦
      bodies_in file at (suc (length (drop at file))) long (omega arith)
      ∙ ap (bodies_from (λ r. bodies_within (length (drop at file)) r)) (sym (gate_in file at long) ∙ is)
]

-- An open gate gives its body, and the list goes on at the next gate.
pub at_open : (file : List ℕ) (at : ℕ) (body : Body) (next : ℕ) → gate_at file at ≡ Open body (drop next file) → bodies_at file at ≡ option_map (λ bodies. body ∷ bodies) (bodies_at file next)
at_open file at body next is = elim (cases_lt (length file) 2) [
  | inl short ↦ absurd (closed_opens (sym (short_shut file at short) ∙ is))
  | inr long ↦
      let here : gate_of (drop at file) ≡ Open body (drop next file) = sym (gate_in file at long) ∙ is in
      let n = length (drop at file) in
      bodies_in file at (suc n) long (omega arith)
      ∙ ap (bodies_from (λ r. bodies_within n r)) here
      ∙ ap (option_map (λ bodies. body ∷ bodies)) (sym (bodies_in file next n long (omega (arith, open_shorter (drop at file) body (drop next file) here))))
]
  where
    closed_opens : Shut ≡ Open body (drop next file) → ⊥
    closed_opens is = cc is

-- Outside the format there is no list.
pub at_none : (file : List ℕ) (at : ℕ) → gate_at file at ≡ NoGate → bodies_at file at ≡ None
at_none file at is = elim (cases_lt (length file) 2) [
  | inl short ↦ absurd (closed_none (sym (short_shut file at short) ∙ is))
  | inr long ↦
      bodies_in file at (suc (length (drop at file))) long (omega arith)
      ∙ ap (bodies_from (λ r. bodies_within (length (drop at file)) r)) (sym (gate_in file at long) ∙ is)
]
  where
    closed_none : Shut ≡ NoGate → ⊥
    closed_none is = cc is

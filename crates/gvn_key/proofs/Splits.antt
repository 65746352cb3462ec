-- Bytes cut where the first one that passes a test stands.
use Rattle.std.proofs.Common.{◌≡◌, ℕ, zero, suc, ◌+◌, ◌<◌, ◌≤◌, Bool, true, false, not, List, [], ◌∷◌, ◌++◌, length, take, drop, get_or, position, Some, refl, arith, add-one}
use Rattle.std.specs.Bool.{OnTrue}
use Rattle.std.specs.List.{list_all}
use Rattle.std.proofs.lemmas.Bool.{and_parts}
use Rattle.std.proofs.lemmas.List.Quantifiers.{position-Some}
use Rattle.std.proofs.Math.Seq.{split_at}
use Rattle.global_defs.proofs.Places.{none_pass}

front_none : (p : ℕ → Bool) (xs : List ℕ) (i : ℕ) → i ≤ length xs → ((k : ℕ) → k < i → p (get_or xs k 0) ≡ false) → none_pass p (take i xs) ≡ true
front_none p xs zero l h = refl
front_none p [] (suc i) l h = absurd (omega arith)
front_none p (x ∷ xs) (suc i) l h = rw (h 0 (omega arith)) (front_none p xs i (omega arith) (λ k lt. h (suc k) (omega arith)))

pub record IsSplit (p : ℕ → Bool) (xs : List ℕ) (i : ℕ) : Type 0 where
  pub inside : i < length xs
  pub front : none_pass p (take i xs) ≡ true
  pub code : xs ≡ take i xs ++ get_or xs i 0 ∷ drop (i + 1) xs

pub split : (p : ℕ → Bool) (xs : List ℕ) (i : ℕ) → position p xs ≡ Some i → IsSplit p xs i
split p xs i e =
    let at = position-Some p xs i 0 e in
    record {
      inside = at.0;
      front = front_none p xs i (omega (arith, at.0)) at.2;
      code = rw add-one (split_at xs i 0 at.0);
    }

not_twice : (b : Bool) → not (not b) ≡ true → b ≡ true
not_twice true h = refl
not_twice false h = h

-- bytes none of which fails a test pass it
pub all_pass : (p : ℕ → Bool) (xs : List ℕ) → none_pass (λ x. not (p x)) xs ≡ true → list_all p xs ≡ true
all_pass p [] h = refl
all_pass p (x ∷ xs) h =
    let t = and_parts (not (not (p x))) (none_pass (λ x. not (p x)) xs) h in
    rw (not_twice (p x) t.0) (all_pass p xs t.1)

pub behind_front : (xs ys : List ℕ) → drop (length xs) (xs ++ ys) ≡ ys
behind_front [] ys = refl
behind_front (x ∷ xs) ys = behind_front xs ys

pub on_true : (b : Bool) (P Q : Type 0) → (P → Q) → OnTrue b P → OnTrue b Q
on_true true P Q f p = f p
on_true false P Q f p = tt

pub of_test : (b : Bool) (P : Type 0) → (b ≡ true → P) → OnTrue b P
of_test true P f = f refl
of_test false P f = tt

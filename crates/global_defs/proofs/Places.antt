-- Where the first element that passes a test stands.
use Rattle.std.proofs.Common.{◌≡◌, ℕ, ◌<◌, Bool, true, not, List, [], ◌∷◌, ◌++◌, length, position, refl, arith, Some, None}
use Rattle.std.specs.List.{list_all, position_or_len}
use Rattle.std.proofs.Math.ListN.{length-append}
use Rattle.std.proofs.lemmas.Bool.{and_parts, lt-ltb, le-ltb}

-- no element passes the test
abbrev pub none_pass : (ℕ → Bool) → List ℕ → Bool
none_pass p xs = list_all (λ x. not (p x)) xs

place_behind : (p : ℕ → Bool) (xs : List ℕ) (y : ℕ) (ys : List ℕ) → none_pass p xs ≡ true → p y ≡ true → position_or_len p (xs ++ (y ∷ ys)) ≡ length xs
place_behind p [] y ys h e = rw e refl
place_behind p (x ∷ xs) y ys h e =
    let t = and_parts (not (p x)) (none_pass p xs) h in
    rw t.0 (omega (arith, place_behind p xs y ys t.1 e))

place_nowhere : (p : ℕ → Bool) (xs : List ℕ) → none_pass p xs ≡ true → position_or_len p xs ≡ length xs
place_nowhere p [] h = refl
place_nowhere p (x ∷ xs) h =
    let t = and_parts (not (p x)) (none_pass p xs) h in
    rw t.0 (omega (arith, place_nowhere p xs t.1))

pub position_behind : (p : ℕ → Bool) (xs : List ℕ) (y : ℕ) (ys : List ℕ) → none_pass p xs ≡ true → p y ≡ true → position p (xs ++ (y ∷ ys)) ≡ Some (length xs)
position_behind p xs y ys h e =
    let at = place_behind p xs y ys h e in
    let within : length xs < length (xs ++ (y ∷ ys)) = omega (arith, length-append xs (y ∷ ys)) in
    rw (at, lt-ltb (length xs) (length (xs ++ (y ∷ ys))) within) refl

pub position_nowhere : (p : ℕ → Bool) (xs : List ℕ) → none_pass p xs ≡ true → position p xs ≡ None
position_nowhere p xs h = rw (place_nowhere p xs h, le-ltb (length xs) (length xs) (omega arith)) refl

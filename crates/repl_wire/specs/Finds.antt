-- What a reader finds in bytes where a value stands.
use Rattle.std.specs.Prelude.{◌≡◌, List, ℕ, ◌++◌, Option, Some}

-- Where a value of the form stands at the front, it and what follows it.
abbrev pub Finds : {X : Type 0} → (X → Type 0) → (X → List ℕ) → List ℕ → Option (X × List ℕ) → Type 0
Finds {X} Form spelled bytes found = (x : X) (rest : List ℕ) → Form x → bytes ≡ spelled x ++ rest → found ≡ Some (x, rest)

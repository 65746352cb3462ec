-- What a reader of a field answers.
use Rattle.std.specs.Prelude.{◌≡◌, ℕ, List, ◌++◌, Option, Some, None}

-- The field that stands at the front and what follows it, and no other reading of these bytes; or nothing where no field stands there.
abbrev pub ReadsField : {X : Type 0} → (X → Type 0) → (X → List ℕ) → List ℕ → Option (X × List ℕ) → Type 0
ReadsField {X} Form spelled bytes None = (x : X) (rest : List ℕ) → Form x → bytes ≡ spelled x ++ rest → ⊥
ReadsField {X} Form spelled bytes (Some read) = Form read.0 × (bytes ≡ spelled read.0 ++ read.1)
    × ((x : X) (rest : List ℕ) → Form x → bytes ≡ spelled x ++ rest → (x ≡ read.0) × (rest ≡ read.1))

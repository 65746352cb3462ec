-- What a key's bytes tell of the key behind it.
use Rattle.std.specs.Prelude.{◌≡◌, ℕ, ◌+◌, ◌≤◌, ◌<◌, List, [], ◌∷◌, ◌++◌, length, slice_index}
use Rattle.std.specs.List.{AllByRecursion}
use Rattle.std.specs.declared.cmp.Ordering.TheVariants.{Less}
use Rattle.std.specs.Ordering.{nat_cmp}
use Rattle.std.specs.Cmp.Lexicographic.{slice_cmp}
use Rattle.gvn_key.specs.Decoding.{IsCode}
use Rattle.gvn_key.specs.declared.told.Seen.{Seen}
use Rattle.gvn_key.specs.Plain.{MayStand}

-- The bytes are some, a text, and a 0, and any text that may stand for this one makes them a key's, too.
pub record MayEnd (seen : Seen) (bytes : List ℕ) : Type 0 where
  pub front : List ℕ
  pub text : List ℕ
  pub is : bytes ≡ front ++ (text ++ 0 ∷ [])
  pub long : length front ≡ seen.from
  pub some : 0 < length text
  pub inner : AllByRecursion (λ b. (seen.low ≤ b + 1) × (b ≤ seen.most)) text
  pub can : (other : List ℕ) → MayStand seen.low seen.most seen.longest (slice_index text 0) other → IsCode (front ++ (other ++ 0 ∷ []))

-- what is told of a key's bytes
abbrev pub Tells : Seen → List ℕ → Type 0
Tells seen bytes = 0 < seen.longest → MayEnd seen bytes

-- bytes of a key that is past another
pub record Follows (last next : List ℕ) : Type 0 where
  pub code : IsCode next
  pub order : slice_cmp nat_cmp last next ≡ Less

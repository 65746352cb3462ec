-- Updates by position.
use Rattle.std.specs.Prelude.{◌≡◌, ℕ, suc, ◌<◌, ◌==◌, Bool, false, if◌then◌else◌, List, [], ◌∷◌, length, get_or, Option, Some, None}
use Rattle.std.specs.Option.{option_map}
use Rattle.global_defs.specs.Entry.{Item}
use Rattle.journal_defs.specs.Sequence.{update_at}
use Rattle.gvn_key.specs.Terms.{update_value}
use Rattle.gvn_key.specs.declared.terms.Update.{Update}

-- so many slots have the updates of these items by their positions
pub record AreSlots (count : ℕ) (items : List Item) (slots : List (Option Update)) : Type 0 where
  pub many : length slots ≡ count
  pub each : (i : ℕ) → i < count → option_map update_value (get_or slots i None) ≡ update_at items i

-- all of the values, where none is missing
abbrev pub all_of : {X : Type 0} → List (Option X) → Option (List X)
all_of [] = Some []
all_of (None ∷ rest) = None
all_of (Some x ∷ rest) = option_map (λ xs. x ∷ xs) (all_of rest)

-- the position after those of the items, where these have the positions from one on, in order
abbrev pub next_after : ℕ → List Item → Option ℕ
next_after i [] = Some i
next_after i (x ∷ items) = if x.position == i then next_after (suc i) items else None

-- a position is there, and it is this one
abbrev pub is_at : ℕ → Option ℕ → Bool
is_at i None = false
is_at i (Some j) = j == i

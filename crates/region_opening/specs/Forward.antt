-- Which regions need forward recovery.
use Rattle.std.specs.Prelude.{◌≡◌, ℕ, ◌<◌, List, Some, None}
use Rattle.journal_defs.specs.Instance.{InstanceRecord}
use Rattle.journal_defs.specs.Sequence.{Placed}
use Rattle.journal_defs.specs.Epochs.{chosen, first_without}
use Rattle.region_opening.specs.declared.needing.WithoutImages.{WithoutImages}

-- none of the first n regions needs forward recovery for t
abbrev pub NoneNeeds : List InstanceRecord → ℕ → (ℕ → List Placed) → ℕ → Type 0
NoneNeeds instance t journal n = (r : ℕ) → r < n → first_without (journal r) (chosen instance t (journal r)) ≡ None

-- The first of n regions that needs forward recovery for t, with its first generation without images behind the epoch chosen for t.
pub record IsFirstWithout (instance : List InstanceRecord) (t : ℕ) (journal : ℕ → List Placed) (n : ℕ) (x : WithoutImages) : Type 0 where
  pub below : x.region < n
  pub without : first_without (journal x.region) (chosen instance t (journal x.region)) ≡ Some x.generation
  pub earlier : NoneNeeds instance t journal x.region

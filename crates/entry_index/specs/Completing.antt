-- What signs tell of entries.
use Rattle.std.specs.Prelude.{◌≡◌, ℕ, ◌^◌, ◌||◌, not, Bool, true, false, if◌then◌else◌, Option, Some, None, IsSome}
use Rattle.journal_defs.specs.Journal.{Part}
use Rattle.journal_defs.specs.Sequence.{in_mask, updates_by}
use Rattle.entry_index.specs.declared.sign.Span.{Span}
use Rattle.entry_index.specs.declared.signed_part.PartSign.{PartSign}
use Rattle.entry_index.specs.declared.completing.Told.{Told}
use Rattle.entry_index.specs.declared.completing.Told.TheVariants.{Complete, Broken, Unsure}
use Rattle.entry_index.specs.declared.place.PartPlace.{PartPlace}
use Rattle.entry_index.specs.Parts.{NOWHERE}
use Rattle.entry_index.specs.Signs.{is_like_sign}

abbrev pub is_like_some : PartSign → Option PartSign → Bool
is_like_some head None = false
is_like_some head (Some s) = is_like_sign head s

-- the region isn't in the mask of the head, or has a part that is like it
abbrev pub agrees_by_sign : PartSign → Option PartSign → ℕ → Bool
agrees_by_sign head s r = not (in_mask head.mask r) || is_like_some head s

-- the span of no items
abbrev pub NO_SPAN : Span
NO_SPAN = record { first = 0; many = 0; in_a_row = true }

abbrev pub span_told : Option PartSign → Span
span_told None = NO_SPAN
span_told (Some s) = s.span

-- the span of a region's items, where the mask has it
abbrev pub span_at : ℕ → (ℕ → Option PartSign) → ℕ → Span
span_at mask sign r = if in_mask mask r then span_told (sign r) else NO_SPAN

-- the place of a region's part
abbrev pub place_told : Option PartSign → PartPlace
place_told None = NOWHERE
place_told (Some s) = s.place

-- what is told of something that is there where an entry is complete holds
abbrev pub IsTold : {X : Type 0} → Told → Option X → Type 0
IsTold Complete o = IsSome o
IsTold Broken o = o ≡ None
IsTold Unsure o = Unit {0}

-- what is told of the entry by a part holds
abbrev pub Decides : Told → (ℕ → Option Part) → Part → Type 0
Decides told part p = IsTold told (updates_by part p)

-- the part is the only one of its entry, and its updates have all positions in order
abbrev pub IsAlone : PartSign → ℕ → Type 0
IsAlone s r = (s.mask ≡ 2 ^ r) × (s.span.in_a_row ≡ true) × (s.span.first ≡ 0) × (s.span.many ≡ s.count)

-- Where a region needs forward recovery, since a generation of its journal keeps no images.
use Rattle.std.specs.Prelude.{◌≡◌, ◌⊎◌, ◌<◌, ◌==◌, ◌&&◌, ℕ, suc, nat_lt, nat_le, Bool, true, not, List, [], ◌∷◌, length, slice_get, Option, Some, None, if◌then◌else◌}
use Rattle.std.specs.List.{list_any}
use Rattle.std.specs.Option.{option_or}
use Rattle.global_defs.specs.Region.{Region}
use Rattle.journal_defs.specs.Journal.{Start}
use Rattle.journal_defs.specs.Instance.{InstanceRecord, regions}
use Rattle.journal_defs.specs.Surviving.{survives}
use Rattle.journal_defs.specs.Sequence.{Records}
use Rattle.journal_defs.specs.Epochs.{chosen, first_without}
use Rattle.command_defs.specs.Commands.{Name}
use Rattle.site_defs.specs.Contents.{Taken, Contents}
use Rattle.world_defs.specs.World.{Place, IfKnown, IfShown, Kept}
use Rattle.world_defs.specs.Shown.{BySequence}
use Rattle.world_defs.specs.Answers.{Cause, NeedForward}

-- the first generation without images behind the epoch that a region goes back to for so many entries
abbrev pub without_behind : Records → ℕ → ℕ → Option ℕ
without_behind u t r = first_without (u.journal r) (chosen u.instance t (u.journal r))

-- The region of that name is the first that needs forward recovery for so many entries, first for that generation.
pub record IsFirstWithout (name : Name) (g : ℕ) (u : Records) (t : ℕ) : Type 0 where
  pub region : ℕ
  pub mode : Region
  pub there : slice_get (regions u.instance) region ≡ Some mode
  pub named : mode.name ≡ name
  pub needs : without_behind u t region ≡ Some g
  pub earlier : (q : ℕ) → q < region → without_behind u t q ≡ None

-- no region does
abbrev pub NoneIsWithout : Records → ℕ → Type 0
NoneIsWithout u t = (r : ℕ) → r < length (regions u.instance) → without_behind u t r ≡ None

-- Where its files are known and shown, no region needs forward recovery for all its entries.
abbrev pub IsWithoutNeed : Place → Type 0
IsWithoutNeed p = IfKnown p (IfShown p (BySequence (λ u seq. NoneIsWithout u (length seq))))

-- What contents tell of that: of a region which generations began without images, and where its epochs stand. Which records stand behind an epoch
-- in its own generation they don't tell.

-- the last of these epochs that survives the CUTs and is of t entries at most
abbrev pub last_taken : List InstanceRecord → ℕ → List Taken → Option Taken
last_taken instance t [] = None
last_taken instance t (e ∷ es) = option_or (last_taken instance t es) (if survives instance e.generation e.number && nat_le e.number t then Some e else None)

abbrev pub generation_of : Option Taken → ℕ
generation_of None = 0
generation_of (Some e) = e.generation

-- the generation of the epoch that a region goes back to for t entries, or 0
abbrev pub epoch_generation : Contents → ℕ → ℕ → ℕ
epoch_generation c t r = generation_of (last_taken c.instance t (c.epochs r))

-- the first generation past g without images
abbrev pub first_past : ℕ → List Start → Option ℕ
first_past g [] = None
first_past g (s ∷ ss) = if nat_lt g s.generation && not s.before then Some s.generation else first_past g ss

-- generation g has no images
abbrev pub is_bare : ℕ → List Start → Bool
is_bare g ss = list_any (λ s. s.generation == g && not s.before) ss

-- the first generation without images past that of the epoch that a region goes back to for t entries
abbrev pub bare_past : Contents → ℕ → ℕ → Option ℕ
bare_past c t r = first_past (epoch_generation c t r) (c.starts r)

-- that epoch stands in a generation without images
abbrev pub is_bare_epoch : Contents → ℕ → ℕ → Bool
is_bare_epoch c t r = is_bare (epoch_generation c t r) (c.starts r)

-- the region of that name with its generation, or what comes behind it
abbrev pub needing_or : Option ℕ → Name → Option (Option (Name × ℕ)) → Option (Option (Name × ℕ))
needing_or None name later = later
needing_or (Some g) name later = Some (Some (name, g))

-- Which of these regions, from that number on, is the first that needs forward recovery for t entries, and first for which generation, or that none does.
-- It's untold from a region on whose epoch stands in a generation without images.
abbrev pub needing_from : Contents → ℕ → ℕ → List Region → Option (Option (Name × ℕ))
needing_from c t r [] = Some None
needing_from c t r (m ∷ ms) = if is_bare_epoch c t r then None else needing_or (bare_past c t r) m.name (needing_from c t (suc r) ms)

abbrev pub needing : Contents → ℕ → Option (Option (Name × ℕ))
needing c t = needing_from c t 0 (regions c.instance)

-- Where that is untold: the region of that name may be the first that does, and first for that generation.
pub record MayNeed (name : Name) (g : ℕ) (c : Contents) (t : ℕ) : Type 0 where
  pub untold : needing c t ≡ None
  pub region : ℕ
  pub mode : Region
  pub there : slice_get (regions c.instance) region ≡ Some mode
  pub named : mode.name ≡ name
  pub needs : ((is_bare_epoch c t region ≡ true) × (epoch_generation c t region ≡ g)) ⊎ (bare_past c t region ≡ Some g)
  pub earlier : (q : ℕ) → q < region → bare_past c t q ≡ None

-- where contents don't tell it, a region may need forward recovery for all entries; nothing changes
abbrev pub MayNeedForward : Cause → Place → Place → Type 0
MayNeedForward cause old new = (region : Name) × (cause ≡ NeedForward region) × IfKnown old ((g : ℕ) × MayNeed region g old.now (length old.now.sequence)) × Kept old new

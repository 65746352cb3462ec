-- Regions whose blocks are sound: from an epoch's images the state of its number of entries comes back (GT.M: what backward recovery
-- rests on).
use Rattle.std.specs.Prelude.{◌≡◌, ◌⊎◌, ℕ, ◌<◌, ◌≤◌, ◌==◌, List, length, take, Option, Some}
use Rattle.std.specs.FinMap as globals
use Rattle.global_defs.specs.declared.limits.TheConstants.{BLOCK}
use Rattle.global_defs.specs.Entry.{Globals, Sequence, state}
use Rattle.journal_defs.specs.Directory.{Pattern, region_of, patterns}
use Rattle.journal_defs.specs.Instance.{InstanceRecord, regions}
use Rattle.journal_defs.specs.Sequence.{Placed, Records}
use Rattle.journal_defs.specs.Epochs.{Blocks, chosen, image_state, NeedsForward}
use Rattle.journal_defs.specs.Leaves.{Decodes}

-- the region's part of the state of a sequence
abbrev pub region_state : List Pattern → ℕ → Sequence → Globals
region_state patterns r seq = globals.retain_keys (state seq) (λ k. region_of patterns k.name == r)

-- each block that there is has all its bytes
abbrev pub AreWhole : (ℕ → Option (List ℕ)) → Type 0
AreWhole blocks = (b : ℕ) (bytes : List ℕ) → blocks b ≡ Some bytes → length bytes ≡ BLOCK

-- the blocks are whole, and decode to these globals
abbrev pub Restores : (ℕ → Option (List ℕ)) → Globals → Type 0
Restores blocks g = AreWhole blocks × Decodes blocks g

-- A region is sound for t, where `of` gives its part of the state of a sequence: it needs forward recovery for t, or the image state
-- below the epoch chosen for t has its blocks, which decode to the part of the state of that epoch's number of entries.
abbrev pub IsSound : (Sequence → Globals) → List InstanceRecord → Sequence → List Placed → Blocks → ℕ → Type 0
IsSound of instance seq journal database t =
    NeedsForward instance t journal ⊎ Restores (image_state (chosen instance t journal) database) (of (take (chosen instance t journal).number seq))

-- A region is sound for every t up to the length.
abbrev pub IsSoundRegion : (Sequence → Globals) → List InstanceRecord → Sequence → List Placed → Blocks → Type 0
IsSoundRegion of instance seq journal database = (t : ℕ) → t ≤ length seq → IsSound of instance seq journal database t

-- Files are sound for t: each region is.
abbrev pub AreSoundFor : Records → (ℕ → Blocks) → Sequence → ℕ → Type 0
AreSoundFor s databases seq t = (r : ℕ) → r < length (regions s.instance) → IsSound (region_state (patterns s.instance) r) s.instance seq (s.journal r) (databases r) t

-- over the t for which the region doesn't need forward recovery, a later chosen epoch has no lesser `blocks`
abbrev pub BlocksGrow : List InstanceRecord → ℕ → List Placed → Type 0
BlocksGrow instance length journal = (t u : ℕ) → t ≤ u → u ≤ length → NeedsForward instance t journal ⊎ ((chosen instance t journal).blocks ≤ (chosen instance u journal).blocks)

-- no epoch past the length is ever chosen
abbrev pub NoEpochPast : ℕ → List InstanceRecord → List Placed → Type 0
NoEpochPast length instance journal = (t : ℕ) → length ≤ t → chosen instance t journal ≡ chosen instance length journal

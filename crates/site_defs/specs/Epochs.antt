-- Epochs of a site's regions: which one a region goes back to, and what taking one makes of contents.
use Rattle.std.specs.Prelude.{◌≡◌, ◌⊎◌, ℕ, ◌<◌, ◌&&◌, Bool, true, nat_lt, nat_le, List, [], ◌∷◌, ◌++◌, length, Option, Some, None, if◌then◌else◌}
use Rattle.std.specs.Option.{option_or, unwrap_or}
use Rattle.journal_defs.specs.Instance.{InstanceRecord, generation, regions}
use Rattle.journal_defs.specs.Surviving.{survives}
use Rattle.site_defs.specs.Contents.{Taken, Contents, Standing}

-- the last of these epochs that survives the CUTs and is of t entries at most
abbrev pub last_for : List InstanceRecord → ℕ → List Taken → Option ℕ
last_for instance t [] = None
last_for instance t (e ∷ es) = option_or (last_for instance t es) (if survives instance e.generation e.number && nat_le e.number t then Some e.number else None)

-- of how many entries the epoch is that a region goes back to for t entries; where there is none, the empty database
abbrev pub epoch_for : List InstanceRecord → ℕ → List Taken → ℕ
epoch_for instance t es = unwrap_or (last_for instance t es) 0

-- An epoch of all entries is taken, in these regions (GT.M: an EPOCH in each region's journal).
abbrev pub taken_in : (ℕ → Bool) → Contents → ℕ → List Taken
taken_in k c r = if k r && nat_lt r (length (regions c.instance)) then record { generation = generation c.instance; number = length c.sequence } ∷ [] else []

abbrev pub with_epochs : (ℕ → Bool) → Contents → Contents
with_epochs k c = record c { epochs = λ r. c.epochs r ++ taken_in k c r }

-- in each region
abbrev pub marked : Contents → Contents
marked c = with_epochs (λ r. true) c

-- what taking an epoch may leave of these contents: the same, or with an epoch in some regions
abbrev pub MayMark : Contents → Contents → Type 0
MayMark c o = (o ≡ c) ⊎ ((k : ℕ → Bool) × (o ≡ with_epochs k c))

-- and of these with what lies behind them, which stays
abbrev pub MayMarkLeft : Standing → Standing → Type 0
MayMarkLeft s o = (o ≡ s) ⊎ ((k : ℕ → Bool) × (o ≡ record { contents = with_epochs k s.contents; broken = s.broken }))

-- each region goes back to an epoch of all entries, and no update is made again
abbrev pub HasEpochs : Contents → Type 0
HasEpochs c = (r : ℕ) → r < length (regions c.instance) → epoch_for c.instance (length c.sequence) (c.epochs r) ≡ length c.sequence

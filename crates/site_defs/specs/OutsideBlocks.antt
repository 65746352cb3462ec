-- Where the blocks of a region aren't what they should be below the epoch that it goes back to.
use Rattle.std.specs.Prelude.{◌≡◌, ◌≢◌, ◌⊎◌, ℕ, ◌*◌, ◌<◌, List, [], ◌∷◌, ◌++◌, length, take, drop, min, Option, Some, IsTrue}
use Rattle.std.specs.List.{AllByRecursion, flat_map}
use Rattle.std.specs.FinMap as globals
use Rattle.global_defs.specs.declared.limits.TheConstants.{BLOCK}
use Rattle.disk_defs.specs.Disk.{Files}
use Rattle.global_defs.specs.Entry.{Globals, Sequence}
use Rattle.global_defs.specs.Valid.{is_key}
use Rattle.journal_defs.specs.Numbers.{database_file}
use Rattle.journal_defs.specs.Instance.{regions}
use Rattle.journal_defs.specs.Directory.{patterns}
use Rattle.journal_defs.specs.Sequence.{Records, IsSequence}
use Rattle.journal_defs.specs.Stands.{AreRecords}
use Rattle.journal_defs.specs.Leaves.{Leaf, StandsAt, KeysRise}
use Rattle.journal_defs.specs.Epochs.{Chosen, chosen, image_state, block_of, NeedsForward}
use Rattle.journal_defs.specs.Sound.{Restores, region_state}
use Rattle.site_defs.specs.Outside.{IsOutsideSite, IsBegunAhead}

-- these leaves lead along the chain from block c to block b
abbrev pub Lead : (ℕ → Option (List ℕ)) → ℕ → List Leaf → ℕ → Type 0
Lead blocks c [] b = c ≡ b
Lead blocks c (l ∷ ls) b = StandsAt blocks c l × (l.next ≢ 0) × Lead blocks l.next ls b

-- the keys of these leaves rise all along, and each behind the first has a cell
abbrev pub GoOn : List Leaf → Type 0
GoOn ls = KeysRise (flat_map (λ l. l.cells) ls) × AllByRecursion (λ l. l.cells ≢ []) (drop 1 ls)

-- The chain of leaves from block 0 on comes to this block with rising keys, and no leaf that would go on stands there.
pub record BreaksAt (blocks : ℕ → Option (List ℕ)) (b : ℕ) : Type 0 where
  pub before : List Leaf
  pub led : Lead blocks 0 before b
  pub risen : GoOn before
  pub broken : (l : Leaf) → StandsAt blocks b l → GoOn (before ++ l ∷ []) → ⊥

-- The block is outside the format: it hasn't all its bytes, or the chain of leaves breaks at it.
pub data IsOutsideAt (blocks : ℕ → Option (List ℕ)) (b : ℕ) : Type 0 where
  Short : (bytes : List ℕ) → blocks b ≡ Some bytes → length bytes ≢ BLOCK → IsOutsideAt blocks b
  Broken : BreaksAt blocks b → IsOutsideAt blocks b

-- The blocks hold other nodes than these.
pub record HoldOthers (blocks : ℕ → Option (List ℕ)) (nodes : Globals) : Type 0 where
  pub there : Globals
  pub keys : AllByRecursion (λ e. IsTrue (is_key e.0)) (globals.entries there)
  pub restores : Restores blocks there
  pub others : there ≢ nodes

-- A region's blocks aren't those of its part of the state, by block b: that is outside the format, or all of them, from block 0 on, hold other nodes.
abbrev pub AreOutside : (ℕ → Option (List ℕ)) → Globals → ℕ → Type 0
AreOutside blocks part b = IsOutsideAt blocks b ⊎ ((b ≡ 0) × HoldOthers blocks part)

-- the epoch that a region goes back to for t entries
abbrev pub gone_back : Records → ℕ → ℕ → Chosen
gone_back s t r = chosen s.instance t (s.journal r)

-- a region's blocks below that epoch
abbrev pub blocks_below : Files → Records → ℕ → ℕ → ℕ → Option (List ℕ)
blocks_below files s t r = image_state (gone_back s t r) (block_of (files (database_file r)))

-- The files stand for a sequence, and the first region whose blocks aren't those of its part of the state below the epoch that it goes back to for the
-- target of that length has what isn't so at this place. A region that needs forward recovery for the target doesn't go back to one.
pub record HaveOutsideBlocks (target : ℕ → ℕ) (files : Files) (file offset : ℕ) : Type 0 where
  pub records : Records
  pub seq : Sequence
  pub held : AreRecords files records
  pub sequence : IsSequence records seq
  pub region : ℕ
  pub below : region < length (regions records.instance)
  pub goes_back : NeedsForward records.instance (target (length seq)) (records.journal region) → ⊥
  -- the blocks of each region before it are of the format
  pub earlier : (q : ℕ) → q < region → NeedsForward records.instance (target (length seq)) (records.journal q) ⊎ ((b : ℕ) → IsOutsideAt (blocks_below files records (target (length seq)) q) b → ⊥)
  pub block : ℕ
  pub outside : AreOutside (blocks_below files records (target (length seq)) region) (region_state (patterns records.instance) region (take (gone_back records (target (length seq)) region).number seq)) block
  pub file_is : file ≡ database_file region
  pub offset_is : offset ≡ BLOCK * block

-- the whole sequence is the target
abbrev pub whole : ℕ → ℕ
whole n = n

-- the files hold no site that can be opened, by what stands at this place of this file
abbrev pub IsOutsideOpening : Files → ℕ → ℕ → Type 0
IsOutsideOpening files file offset = IsOutsideSite files file offset ⊎ HaveOutsideBlocks whole files file offset

-- the files hold no site that can be rolled back to so many entries: two generations are to be drawn, and none of them has begun
abbrev pub IsOutsideRollback : (to : ℕ) → Files → ℕ → ℕ → Type 0
IsOutsideRollback to files file offset = IsOutsideSite files file offset ⊎ IsBegunAhead files file offset ⊎ HaveOutsideBlocks (min to) files file offset

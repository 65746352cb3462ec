-- Blocks by their numbers, and what of them stands on the file.
use Rattle.std.specs.Prelude.{◌≡◌, ◌≤◌, ◌<◌, ◌⊎◌, ℕ, suc, ◌+◌, Bool, true, false, List, [], ◌∷◌, ◌++◌, length, drop, replicate, if◌then◌else◌, slice_index_or, slice_set}
use Rattle.journal_defs.specs.Leaves.{Leaf, IsBlock}
use Rattle.journal_defs.specs.Epochs.{block_of}
use Rattle.disk_defs.specs.Disk.{View, Image, From, OnFile, AtEachMoment, ReadsAfter}
use Rattle.disk_defs.specs.Frames.{Only, OthersStay}
use Rattle.block_fmt.specs.Cells.{blank}
use Rattle.block_pool.specs.Code.{Pool}

-- the block of this number
abbrev pub leaf_at : Pool → ℕ → Leaf
leaf_at p b = slice_index_or p.leaves b blank

-- a block that there is may differ from the file
abbrev pub is_dirty : Pool → ℕ → Bool
is_dirty p b = slice_index_or p.dirty b false

-- the same pool with this block marked
abbrev pub marked : Pool → ℕ → Pool
marked p b = record { leaves = p.leaves; dirty = slice_set p.dirty b true; room = p.room }

-- the same pool with another block of this number
abbrev pub changed : Pool → ℕ → Leaf → Pool
changed p b l = record { leaves = slice_set p.leaves b l; dirty = slice_set p.dirty b true; room = p.room }

-- one block more stands in the pool, and no room but its own is gone
pub record IsAdded (old new : Pool) (l : Leaf) (is_new : Bool) : Type 0 where
  pub leaves : new.leaves ≡ old.leaves ++ l ∷ []
  pub dirty : new.dirty ≡ old.dirty ++ is_new ∷ []
  pub room : old.room ≤ new.room + 1

-- the same pool with no block marked
abbrev pub cleaned : Pool → Pool
cleaned p = record { leaves = p.leaves; dirty = replicate (length p.leaves) false; room = p.room }

-- each block that isn't dirty stands on the file
abbrev pub CleanStand : Pool → List ℕ → Type 0
CleanStand p file = (b : ℕ) → b < length p.leaves → is_dirty p b ≡ false → IsBlock (block_of file b) (leaf_at p b)

-- each block stands on the file
abbrev pub AllStand : Pool → List ℕ → Type 0
AllStand p file = (b : ℕ) → b < length p.leaves → IsBlock (block_of file b) (leaf_at p b)

-- at most the dirty blocks of the file have other bytes
abbrev pub ChangesDirty : Pool → List ℕ → List ℕ → Type 0
ChangesDirty p old new = (b : ℕ) → (is_dirty p b ≡ true) ⊎ (block_of new b ≡ block_of old b)

-- each block below this one stands on the file
abbrev pub StandBelow : Pool → ℕ → List ℕ → Type 0
StandBelow p n file = (b : ℕ) → b < n → b < length p.leaves → IsBlock (block_of file b) (leaf_at p b)

-- the numbers of the marks that are set, counted from this one on
abbrev pub numbers_from : ℕ → List Bool → List ℕ
numbers_from n [] = []
numbers_from n (d ∷ ds) = if d then n ∷ numbers_from (suc n) ds else numbers_from (suc n) ds

-- the numbers of the dirty blocks, in rising order
abbrev pub dirty_numbers : Pool → List ℕ
dirty_numbers p = numbers_from 0 p.dirty

-- how many marks are set
abbrev pub count_set : List Bool → ℕ
count_set [] = 0
count_set (d ∷ ds) = if d then 1 + count_set ds else count_set ds

-- how many blocks are dirty from this one on
abbrev pub dirty_from : Pool → ℕ → ℕ
dirty_from p n = count_set (drop n p.dirty)

-- A call that writes dirty blocks alone.
pub record WritesDirty (p : Pool) (file : ℕ) (old new : View) : Type 0 where
  pub content : ReadsAfter (OnFile file (ChangesDirty p)) old.content new.content
  pub any_moment : AtEachMoment old new (From (Image old) (OnFile file (ChangesDirty p)))
  pub frame : OthersStay (Only file) old new

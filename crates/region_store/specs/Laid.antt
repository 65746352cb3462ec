-- Blocks of an image state as leaves in a pool.
use Rattle.std.specs.Prelude.{◌≡◌, ◌⊎◌, ℕ, ◌+◌, ◌*◌, ◌<◌, ◌≤◌, false, List, length, map, Option, Some, None}
use Rattle.global_defs.specs.declared.limits.TheConstants.{BLOCK}
use Rattle.journal_defs.specs.Journal.{JournalRecord, Pini, Epoch, Pblk, Tcom}
use Rattle.journal_defs.specs.Epochs.{Chosen, image_of, image_state, block_of}
use Rattle.journal_defs.specs.Leaves.{Leaf, IsBlock}
use Rattle.block_fmt.specs.Cells.{blank}
use Rattle.block_pool.specs.Code.{Pool}
use Rattle.block_pool.specs.Pool.{leaf_at, is_dirty}
use Rattle.before_image.specs.Undoing.{Oldest, with_oldest}
use Rattle.jnl_record.specs.Values.{placed_value}
use Rattle.jnl_record.specs.declared.placed.PlacedRecord.{PlacedRecord}

-- an epoch by its number, its `blocks` and the records behind it
abbrev pub epoch_at : ℕ → ℕ → List PlacedRecord → Chosen
epoch_at number blocks behind = record { number = number; blocks = blocks; after = map placed_value behind }

-- the oldest images with a record more: an image counts where its block has none yet
abbrev pub taken : Oldest → JournalRecord → Oldest
taken us (Pblk i) = with_oldest us i.block i.bytes
taken us (Pini s) = us
taken us (Epoch m) = us
taken us (Tcom p) = us

-- bytes behind block 0 that are those of no block, with an empty leaf in their place
pub record IsBlank (bytes : List ℕ) (b : ℕ) (l : Leaf) : Type 0 where
  pub behind : 1 ≤ b
  pub empty : l ≡ blank
  pub none : (m : Leaf) → IsBlock bytes m → ⊥

-- the pool has the block of this number, or an empty leaf in place of bytes that are none
pub record IsLaid (blocks : ℕ → Option (List ℕ)) (p : Pool) (b : ℕ) : Type 0 where
  pub bytes : List ℕ
  pub there : blocks b ≡ Some bytes
  pub whole : length bytes ≡ BLOCK
  pub stands : IsBlock bytes (leaf_at p b) ⊎ IsBlank bytes b (leaf_at p b)

-- The pool has the first n blocks below an epoch, of which those that aren't dirty stand on the file, and the file has those without
-- an image whole.
pub record AreLaid (e : Chosen) (file : List ℕ) (p : Pool) (n : ℕ) : Type 0 where
  pub count : length p.leaves ≡ n
  pub marks : length p.dirty ≡ n
  pub laid : (b : ℕ) → b < n → IsLaid (image_state e (block_of file)) p b
  pub clean : (b : ℕ) → b < n → is_dirty p b ≡ false → IsBlock (block_of file b) (leaf_at p b)
  pub whole : (b : ℕ) → b < n → b < e.blocks → image_of e.after b ≡ None → BLOCK * b + BLOCK ≤ length file

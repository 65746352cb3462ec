-- A region's globals with their blocks, and what these are against the database file and an epoch.
use Rattle.std.specs.Prelude.{◌≡◌, ◌≤◌, ◌<◌, ◌+◌, ◌*◌, ◌++◌, ℕ, zero, suc, Bool, true, false, List, [], length, fold, Option, slice_index_or, if◌then◌else◌, refl}
use Rattle.std.specs.Coded.{Coded, code_by, coded×, coded_list, coded_bool, coded_ℕ}
use Rattle.global_defs.specs.declared.limits.TheConstants.{BLOCK}
use Rattle.global_defs.specs.Entry.{Globals, Update, apply}
use Rattle.gvn_globals.specs.Codes.{globals_code}
use Rattle.disk_defs.specs.Disk.{Files}
use Rattle.journal_defs.specs.Journal.{Before}
use Rattle.journal_defs.specs.Epochs.{Chosen, block_of}
use Rattle.journal_defs.specs.Sound.{Restores}
use Rattle.block_laws.specs.Nodes.{HaveKeys}
use Rattle.block_laws.specs.Several.{MayChange}
use Rattle.block_pool.specs.Code.{Pool, pool_code}
use Rattle.block_pool.specs.Pool.{is_dirty, cleaned, CleanStand, ChangesDirty}
use Rattle.gvt_leaf.specs.Stored.{Stored, IsSame}
use Rattle.before_image.specs.Images.{is_free, with_image, first_image, Knows}

pub record Standing : Type 0 where
  -- the number of the database file
  pub file : ℕ
  pub globals : Globals
  -- the blocks, with marks of those that may differ from the file
  pub pool : Pool
  -- a mark for each block below the epoch, set where it has an image
  pub imaged : List Bool

abbrev pub standing_code : Coded Standing
standing_code = code_by (ℕ × (Globals × (Pool × List Bool))) (coded× coded_ℕ (coded× globals_code (coded× pool_code (coded_list coded_bool)))) (λ s. (s.file, (s.globals, (s.pool, s.imaged))))
    (λ p. record { file = p.0; globals = p.1.0; pool = p.1.1.0; imaged = p.1.1.1 }) (λ _. refl)

-- What the region's blocks are against an epoch and the bytes of the database file.
pub record HoldsRegion (e : Chosen) (bytes : List ℕ) (s : Standing) : Type 0 where
  -- each block that isn't dirty stands on the file
  pub clean : CleanStand s.pool bytes
  -- no block of the epoch is gone
  pub blocks : e.blocks ≤ length s.pool.leaves
  -- the marks tell which blocks below the epoch have an image behind it
  pub knows : Knows s.imaged e
  -- the file has each block whole that needs an image before it is written
  pub whole : (b : ℕ) → b < e.blocks → is_free s.imaged b ≡ false → BLOCK * b + BLOCK ≤ length bytes

-- the region's blocks are those of some epoch and the files
abbrev pub IsHeld : Standing → Files → Type 0
IsHeld s files = (e : Chosen) × HoldsRegion e (files s.file) s

-- the region's globals in their blocks
abbrev pub stored_in : Standing → Stored
stored_in s = record { globals = s.globals; pool = s.pool }

-- nothing but perhaps the room is another
pub record IsSameRegion (old new : Standing) : Type 0 where
  pub file : new.file ≡ old.file
  pub stored : IsSame (stored_in old) (stored_in new)
  pub imaged : new.imaged ≡ old.imaged

-- What a change makes of a region: its blocks stay those of the epoch and the file.
pub record IsChanged (old new : Standing) : Type 0 where
  pub file : new.file ≡ old.file
  pub imaged : new.imaged ≡ old.imaged
  pub holds : (e : Chosen) (bytes : List ℕ) → HoldsRegion e bytes old → HoldsRegion e bytes new

-- each changed block may be written: it stands past the epoch or has an image
abbrev pub AreLogged : Standing → Type 0
AreLogged s = (b : ℕ) → is_dirty s.pool b ≡ true → is_free s.imaged b ≡ true

-- no block has changed
abbrev pub IsFlushed : Standing → Type 0
IsFlushed s = (b : ℕ) → is_dirty s.pool b ≡ false

-- the same region with no changed block
abbrev pub flushed : Standing → Standing
flushed s = record { file = s.file; globals = s.globals; pool = cleaned s.pool; imaged = s.imaged }

-- the same region with other marks of images
abbrev pub with_marks : Standing → List Bool → Standing
with_marks s marks = record { file = s.file; globals = s.globals; pool = s.pool; imaged = marks }

-- the image that a block needs before it is written, as it stands on the file; none where it hasn't changed
abbrev pub image_at : Standing → List ℕ → ℕ → List Before
image_at s bytes b = if is_dirty s.pool b then first_image s.imaged b (block_of bytes b) else []

-- those of the first n blocks
abbrev pub images_below : Standing → List ℕ → ℕ → List Before
images_below s bytes zero = []
images_below s bytes (suc n) = images_below s bytes n ++ image_at s bytes n

-- those of all blocks
abbrev pub changed_images : Standing → List ℕ → List Before
changed_images s bytes = images_below s bytes (length s.pool.leaves)

-- marks with those of the first n blocks set where they have changed
abbrev pub marks_in : List Bool → List Bool → ℕ → List Bool
marks_in dirty marks zero = marks
marks_in dirty marks (suc n) = if slice_index_or dirty n false then with_image (marks_in dirty marks n) n else marks_in dirty marks n

-- the region's marks with those of all changed blocks set
abbrev pub logged_marks : Standing → List Bool
logged_marks s = marks_in s.pool.dirty s.imaged (length s.pool.leaves)

-- What a flush that is cut short makes of the file.
pub record IsCutShort (s : Standing) (old new : List ℕ) : Type 0 where
  -- at most the changed blocks have other bytes
  pub changed : ChangesDirty s.pool old new
  -- each of them may be written, whichever epoch's images the marks tell
  pub may : (e : Chosen) → Knows s.imaged e → MayChange e (block_of old) (block_of new)

-- The globals are those of these blocks with updates made.
pub record IsReplayed (blocks : ℕ → Option (List ℕ)) (us : List Update) (g : Globals) : Type 0 where
  pub restored : Globals
  pub keys : HaveKeys restored
  pub restores : Restores blocks restored
  pub made : g ≡ fold apply restored us

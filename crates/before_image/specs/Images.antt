-- Which blocks were imaged since an epoch: a mark for each block below the epoch's `blocks`.
use Rattle.std.specs.Prelude.{◌≡◌, ◌<◌, ℕ, Bool, true, false, List, [], ◌∷◌, length, map, if◌then◌else◌, slice_index_or, slice_set, None, IsSome}
use Rattle.journal_defs.specs.Journal.{Before, Pblk}
use Rattle.journal_defs.specs.Sequence.{Placed}
use Rattle.journal_defs.specs.Epochs.{Chosen, image_of}

-- a block may be written: it has no mark, since it isn't below the epoch's `blocks`, or its mark is set
abbrev pub is_free : List Bool → ℕ → Bool
is_free marks b = slice_index_or marks b true

-- the same marks with this block's set
abbrev pub with_image : List Bool → ℕ → List Bool
with_image marks b = slice_set marks b true

-- the image that a block's first change needs, none where the block may be written
abbrev pub first_image : List Bool → ℕ → List ℕ → List Before
first_image marks b bytes = if is_free marks b then [] else record { block = b; bytes = bytes } ∷ []

-- images as records of a generation
abbrev pub placed_images : ℕ → List Before → List Placed
placed_images g is = map (λ i. record { generation = g; what = Pblk i }) is

-- The marks are those of an epoch: a mark is set just where the block has an image after it.
pub record Knows (marks : List Bool) (e : Chosen) : Type 0 where
  pub blocks : length marks ≡ e.blocks
  pub imaged : (b : ℕ) → b < e.blocks → is_free marks b ≡ true → IsSome (image_of e.after b)
  pub others : (b : ℕ) → b < e.blocks → is_free marks b ≡ false → image_of e.after b ≡ None

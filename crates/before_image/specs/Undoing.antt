-- The oldest images after an epoch, by the blocks' numbers.
use Rattle.std.specs.Prelude.{◌≡◌, ◌<◌, ℕ, List, length, map, Option, Some, None, slice_index_or, slice_set}
use Rattle.std.specs.Option.{option_or}
use Rattle.std.specs.List.{range_with_len}
use Rattle.journal_defs.specs.Epochs.{Chosen, image_of}

abbrev pub Oldest : Type 0
Oldest = List (Option (List ℕ))

-- of each block below a number, the image that this function gives of it
abbrev pub images_below : ℕ → (ℕ → Option (List ℕ)) → Oldest
images_below blocks image = map image (range_with_len 0 blocks)

-- the oldest image that is known of a block
abbrev pub oldest_of : Oldest → ℕ → Option (List ℕ)
oldest_of us b = slice_index_or us b None

-- the same with an image more, which counts where its block has none yet
abbrev pub with_oldest : Oldest → ℕ → List ℕ → Oldest
with_oldest us b image = slice_set us b (option_or (oldest_of us b) (Some image))

-- The images are the oldest ones after an epoch, of the blocks below its `blocks`.
pub record Undoes (us : Oldest) (e : Chosen) : Type 0 where
  pub blocks : length us ≡ e.blocks
  pub oldest : (b : ℕ) → b < e.blocks → oldest_of us b ≡ image_of e.after b

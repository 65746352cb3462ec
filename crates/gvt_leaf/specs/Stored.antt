-- Globals with the blocks that hold them.
use Rattle.std.specs.Prelude.{◌≡◌, ◌≤◌, ◌<◌, ◌+◌, ◌^◌, ℕ, List, [], ◌∷◌, Option, slice_get, option_map, refl}
use Rattle.std.specs.Coded.{Coded, code_by, coded×}
use Rattle.std.specs.FinMap as globals
use Rattle.global_defs.specs.Entry.{Globals, Update, Set, Kill, ZKill}
use Rattle.gvn_globals.specs.Codes.{globals_code}
use Rattle.journal_defs.specs.Leaves.{Leaf, spelled_leaf}
use Rattle.block_pool.specs.Code.{Pool, pool_code}

pub record Stored : Type 0 where
  pub globals : Globals
  -- the blocks; the room is how many nodes may be set without memory
  pub pool : Pool

abbrev pub stored_code : Coded Stored
stored_code = code_by (Globals × Pool) (coded× globals_code pool_code) (λ s. (s.globals, s.pool)) (λ p. record { globals = p.0; pool = p.1 }) (λ _. refl)

-- the bytes that blocks are written as
abbrev pub blocks_in : List Leaf → ℕ → Option (List ℕ)
blocks_in leaves b = option_map spelled_leaf (slice_get leaves b)

-- how many nodes an update sets
abbrev pub sets_of : Update → ℕ
sets_of (Set key value) = 1
sets_of (Kill key) = 0
sets_of (ZKill key) = 0

-- how many nodes updates set, each as often as it is set
abbrev pub sets_in : List Update → ℕ
sets_in [] = 0
sets_in (u ∷ us) = sets_of u + sets_in us

-- so many nodes may be set without memory
pub record HasRoom (s : Stored) (sets : ℕ) : Type 0 where
  pub leaves : sets ≤ s.pool.room
  pub numbers : globals.len s.globals + sets < 2 ^ 32

-- nothing but perhaps the room is another
pub record IsSame (old new : Stored) : Type 0 where
  pub globals : new.globals ≡ old.globals
  pub leaves : new.pool.leaves ≡ old.pool.leaves
  pub dirty : new.pool.dirty ≡ old.pool.dirty

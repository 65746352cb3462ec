-- The globals that cells hold.
use Rattle.std.specs.Prelude.{ℕ, zero, suc, ◌+◌, ◌==◌, List, [], ◌∷◌, take, drop, map, position, Option, Some, None, unwrap_or}
use Rattle.std.specs.FinMap as globals
use Rattle.global_defs.specs.declared.limits.TheConstants.{MOST_SUBS}
use Rattle.global_defs.specs.Key.{Key, Sub, sub_of, key_cmp}
use Rattle.global_defs.specs.Entry.{Globals}
use Rattle.gvn_key.specs.Decoding.{sub_end, sub_read}
use Rattle.journal_defs.specs.Leaves.{Cell}

-- a subscript that ends there, and those behind it
abbrev pub sub_ending : Option ℕ → List ℕ → (List ℕ → List Sub) → List Sub
sub_ending None bytes more = []
sub_ending (Some end) bytes more = sub_of (unwrap_or (sub_read (take end bytes)) []) ∷ more (drop (end + 1) bytes)

-- at most so many subscripts by their bytes
abbrev pub subs_in : ℕ → List ℕ → List Sub
subs_in zero bytes = []
subs_in (suc n) bytes = sub_ending (sub_end bytes) bytes (subs_in n)

-- the key of encoded bytes
unfoldable pub key_in : List ℕ → Key
key_in bytes = record {
  name = take (unwrap_or (position (λ b. b == 0) bytes) 0) bytes;
  subs = subs_in MOST_SUBS (drop (unwrap_or (position (λ b. b == 0) bytes) 0 + 1) bytes);
}

-- the globals whose keys are encoded in these cells
unfoldable pub globals_in : List Cell → Globals
globals_in cells = globals.from_entries {R = key_cmp} (map (λ c. (key_in c.0, c.1)) cells)

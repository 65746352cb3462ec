-- A site's globals in its regions, each node in that of its name.
use Rattle.std.specs.Prelude.{◌≡◌, ◌≢◌, ◌<◌, ◌+◌, ◌^◌, ℕ, Bool, refl, List, [], length, map, Some, slice_get, slice_index_or}
use Rattle.std.specs.Coded.{Coded, code_by, coded×, coded_list, coded_bool, coded_ℕ}
use Rattle.std.specs.List.{AllByRecursion}
use Rattle.std.specs.FinMap as globals
use Rattle.global_defs.specs.Entry.{Globals, Sequence, Update, state}
use Rattle.journal_defs.specs.Directory.{Pattern}
use Rattle.journal_defs.specs.Sound.{region_state}
use Rattle.block_laws.specs.Nodes.{updates_in, union}
use Rattle.gvt_leaf.specs.Stored.{HasRoom, sets_in}
use Rattle.region_store.specs.Region.{Standing, standing_code, IsSameRegion, IsChanged, stored_in}

pub record Joined : Type 0 where
  -- the patterns of the global directory
  pub patterns : List Pattern
  pub regions : List Standing

abbrev pub pattern_code : Coded Pattern
pattern_code = code_by (ℕ × (Bool × List ℕ)) (coded× coded_ℕ (coded× coded_bool (coded_list coded_ℕ))) (λ p. (p.region, (p.star, p.name))) (λ v. record { region = v.0; star = v.1.0; name = v.1.1 }) (λ _. refl)

abbrev pub joined_code : Coded Joined
joined_code = code_by (List Pattern × List Standing) (coded× (coded_list pattern_code) (coded_list standing_code)) (λ j. (j.patterns, j.regions)) (λ v. record { patterns = v.0; regions = v.1 }) (λ _. refl)

-- the globals of each region
abbrev pub parts_in : List Standing → List Globals
parts_in regions = map (λ s. s.globals) regions

-- the globals of all regions
abbrev pub joined : Joined → Globals
joined j = union (parts_in j.regions)

-- each region has its part of the state
abbrev pub ArePartsOf : List Pattern → List Standing → Sequence → Type 0
ArePartsOf patterns regions seq = (r : ℕ) → r < length regions → slice_get (parts_in regions) r ≡ Some (region_state patterns r seq)

-- The regions have the parts of one state, each node in the region of its name.
pub record AreJoined (j : Joined) : Type 0 where
  pub entries : Sequence
  pub parts : ArePartsOf j.patterns j.regions entries
  pub some : 0 < length j.regions
  pub within : AllByRecursion (λ p. p.region < length j.regions) j.patterns
  pub few : globals.len (state entries) < 2 ^ 32

-- there is room in each region for its own among these updates
pub record HasRoomFor (j : Joined) (us : List Update) : Type 0 where
  pub each : (r : ℕ) (s : Standing) → slice_get j.regions r ≡ Some s → HasRoom (stored_in s) (sets_in (updates_in j.patterns r us))
  pub numbers : globals.len (joined j) + sets_in us < 2 ^ 32

-- nothing but perhaps the room is another
pub record IsSameJoined (old new : Joined) : Type 0 where
  pub patterns : new.patterns ≡ old.patterns
  pub parts : parts_in new.regions ≡ parts_in old.regions
  pub count : length new.regions ≡ length old.regions
  pub each : (r : ℕ) (s t : Standing) → slice_get old.regions r ≡ Some s → slice_get new.regions r ≡ Some t → IsSameRegion s t

-- each region's blocks stay those of the epoch and the file
pub record AreChanged (old new : Joined) : Type 0 where
  pub patterns : new.patterns ≡ old.patterns
  pub count : length new.regions ≡ length old.regions
  pub each : (r : ℕ) (s t : Standing) → slice_get old.regions r ≡ Some s → slice_get new.regions r ≡ Some t → IsChanged s t

-- a region with no file and no blocks
abbrev pub no_region : Standing
no_region = record { file = 0; globals = globals.empty; pool = record { leaves = []; dirty = []; room = 0 }; imaged = [] }

-- the region of a number
abbrev pub region_at : Joined → ℕ → Standing
region_at j r = slice_index_or j.regions r no_region

-- all nodes stay in their regions, and but for the region of this number nothing of them is another
pub record IsSameElsewhere (number : ℕ) (old new : Joined) : Type 0 where
  pub nodes : joined new ≡ joined old
  pub patterns : new.patterns ≡ old.patterns
  pub parts : parts_in new.regions ≡ parts_in old.regions
  pub count : length new.regions ≡ length old.regions
  pub others : (r : ℕ) → r ≢ number → slice_get new.regions r ≡ slice_get old.regions r

-- What sites stand for.
use Rattle.std.specs.Prelude.{◌≡◌, ℕ, Bool, true, false, List, [], ◌∷◌, length, Option, None, Some, IsTrue, option_map}
use Rattle.std.specs.List.{AllByRecursion}
use Rattle.disk_defs.specs.Disk.{View}
use Rattle.journal_defs.specs.Instance.{site_name}
use Rattle.global_defs.specs.Entry as defs
use Rattle.site_store.specs.declared.memory.Memory.{Memory}
use Rattle.site_store.specs.Site as store
use Rattle.site_store.specs.Site.{HasReign}
use Rattle.site_store.specs.Owning.{disk_of, memory_of, IsGoing}
use Rattle.repl_section.specs.declared.reign.Reign as code
use Rattle.repl_section.specs.Reigns.{stamp_in}
use Rattle.site_defs.specs.Lists.{Among}
use Rattle.world_defs.specs.World as world
use Rattle.command_defs.specs.Commands.{Name}
use Rattle.world_defs.specs.World.{Place, Settled, is_site_named, is_free}
use Rattle.site_defs.specs.Contents.{Contents, NO_LEFTOVER, is_made, bare}
use Rattle.site_runner.specs.declared.slot.Slot.{Slot}
use Rattle.site_runner.specs.declared.slot.Slot.TheVariants as slots

-- what an open site has in memory, and the next serials of its updaters
pub record Reign : Type 0 where
  pub site : Memory
  pub serials : List ℕ

pub data State : Type 0 where
  Down : State
  Primary : Reign → State
  -- a call of its disk failed, the one of that number on it
  Failed : (fault : ℕ) → State

pub record Site : Type 0 where
  pub name : Name
  pub state : State

abbrev pub reign_in : {D : Type 0} → code.Reign D → Reign
reign_in r = record { site = memory_of r.site; serials = r.serials }

-- the disk of a slot
abbrev pub disk_in : {D : Type 0} → Slot D → D
disk_in (slots.Free disk) = disk
disk_in (slots.Down disk name) = disk
disk_in (slots.Open r name) = disk_of r.value.site
disk_in (slots.Failed disk name fault) = disk

-- the site on it
abbrev pub site_in : {D : Type 0} → Slot D → Option Site
site_in (slots.Free disk) = None
site_in (slots.Down disk name) = Some (record { name = name; state = Down })
site_in (slots.Open r name) = Some (record { name = name; state = Primary (reign_in r.value) })
site_in (slots.Failed disk name fault) = Some (record { name = name; state = Failed fault })

-- and its name
abbrev pub name_of : {D : Type 0} → Slot D → Option Name
name_of slot = option_map (λ (s : Site). s.name) (site_in slot)

abbrev pub stamp_of : Reign → defs.Stamp
stamp_of r = stamp_in r.site.stamp

-- The reign's site is open with these contents, all entries for good.
abbrev pub Reigns : View → Bool → Contents → Reign → Type 0
Reigns v told c r = store.IsOpen v told c (length c.sequence) r.site

abbrev pub state_value : State → world.State
state_value Down = world.Down
state_value (Primary r) = world.Primary (stamp_of r) r.serials
state_value (Failed fault) = world.Failed fault

abbrev pub is_down : State → Bool
is_down Down = true
is_down (Primary r) = false
is_down (Failed fault) = false

abbrev pub fault_of : State → Option ℕ
fault_of Down = None
fault_of (Primary r) = None
fault_of (Failed fault) = Some fault

abbrev pub site_value : Site → world.Site
site_value s = record { name = s.name; state = state_value s.state }

abbrev pub is_slot_named : {D : Type 0} → Name → Slot D → Bool
is_slot_named name slot = is_site_named name (option_map site_value (site_in slot))

abbrev pub is_slot_free : {D : Type 0} → Slot D → Bool
is_slot_free slot = is_free (option_map site_value (site_in slot))

-- a site of that name was made there
pub record IsOf (called : Name) (c : Contents) : Type 0 where
  pub made : is_made c ≡ true
  pub name : site_name c.instance ≡ called

-- a site that was made is there, whatever a crash leaves
pub record IsMade (name : Name) (p : Place) : Type 0 where
  pub now : IsOf name p.now
  pub outcomes : (o : Contents) → Among p.outcomes o → IsOf name o

-- an open site is ready for calls, and its reign has begun
pub record IsReadyOpen {D : Type 0} (view : D → View) (r : code.Reign D) : Type 0 where
  pub going : IsGoing view r.site
  pub reign : HasReign (memory_of r.site)

abbrev pub IsReadySlot : {D : Type 0} → (D → View) → Slot D → Type 0
IsReadySlot view (slots.Free disk) = Unit {0}
IsReadySlot view (slots.Down disk name) = Unit {0}
IsReadySlot view (slots.Open r name) = IsReadyOpen view r.value
IsReadySlot view (slots.Failed disk name fault) = Unit {0}

abbrev pub AreReady : {D : Type 0} → (D → View) → List (Slot D) → Type 0
AreReady view slots = AllByRecursion (IsReadySlot view) slots

-- An open site has in memory the records and the nodes of its place and places of as many entries and, where files are known, these entries on the disk for good.
pub record IsOpen (v : View) (r : Reign) (p : Place) : Type 0 where
  pub reigns : Reigns v p.told p.now r
  pub settled : IsTrue p.told → Settled p
  -- nothing lies behind its entries
  pub left : IsTrue p.told → p.left ≡ NO_LEFTOVER
  pub standings : IsTrue p.told → p.standings ≡ Some (bare p.now ∷ [])

abbrev pub HoldsState : View → State → Place → Type 0
HoldsState v Down p = Unit {0}
HoldsState v (Primary r) p = IsOpen v r p
HoldsState v (Failed fault) p = Unit {0}

pub record IsHeld (v : View) (s : Site) (p : Place) : Type 0 where
  pub made : IsTrue p.told → IsMade s.name p
  pub state : HoldsState v s.state p

abbrev pub HoldsSite : View → Option Site → Place → Type 0
HoldsSite v None p = Unit {0}
HoldsSite v (Some s) p = IsHeld v s p

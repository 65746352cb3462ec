-- What CREATE means at the next disk's place.
use Rattle.std.specs.Prelude.{◌≡◌, ℕ, Bool, false, List, Result, IsTrue}
use Rattle.global_defs.specs.Region.{Region}
use Rattle.disk_defs.specs.Disk.{View}
use Rattle.site_store.specs.declared.layout.RegionSpec.{RegionSpec}
use Rattle.command_defs.specs.Commands.{Name}
use Rattle.site_defs.specs.Lists.{Among}
use Rattle.site_defs.specs.Contents.{Contents, is_made}
use Rattle.world_defs.specs.World.{Place}
use Rattle.world_defs.specs.rows.Create.{create}
use Rattle.site_runner.specs.declared.slot.Slot.{Slot}
use Rattle.gvn_key.specs.declared.bytes.NoMemory.{NoMemory}
use Rattle.site_runner.specs.declared.ending.Ended.{Ended}
use Rattle.site_runner.specs.Executes.{Becomes}
use Rattle.site_runner.specs.Tied.{IsPlace}

-- a region of a command, as a site is made with it
abbrev pub spec_of : List ℕ × Bool → RegionSpec
spec_of r = record { name = r.0; before = r.1 }

-- no site was made there, whatever a crash leaves
pub record IsUnmade (p : Place) : Type 0 where
  pub now : IsTrue p.told → is_made p.now ≡ false
  pub outcomes : IsTrue p.told → (o : Contents) → Among p.outcomes o → is_made o ≡ false

-- Whatever place without a site the slot was, a making led to such a slot and ended so.
abbrev pub MakesHere : {D : Type 0} → (D → View) → Name → List Region → Slot D → Slot D × Result Ended NoMemory → List ℕ → List ℕ → Type 0
MakesHere view name regions old left before now = (p : Place) → IsPlace view old p → IsUnmade p → Becomes view (create regions name p) p left.0 left.1 before now

-- What a run over slots means.
use Rattle.std.specs.Prelude.{ℕ, List, Option}
use Rattle.disk_defs.specs.Disk.{View}
use Rattle.world_defs.specs.World.{World}
use Rattle.site_runner.specs.declared.slot.Slot.{Slot}
use Rattle.site_runner.specs.declared.status.Status.{Status}
use Rattle.site_runner.specs.Tied.{Tied, Matched}
use Rattle.site_runner.specs.Ends.{RanTo}

-- what a run leaves, from any world that the slots were
abbrev pub Meaning : {D : Type 0} → (D → View) → List (Slot D) → List (Slot D) → Status → Option (List ℕ) → Option (List ℕ) → Option (List ℕ) → Option (List ℕ) → Type 0
Meaning view first slots status o n old new = (w : World) → Tied view first w → (after : World) × Matched view slots after × RanTo status o n w after old new

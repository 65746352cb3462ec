-- Disks in slots.
use Rattle.site_runner.specs.declared.slot.Slot.{Slot}
use Rattle.site_runner.specs.declared.slot.Slot.TheVariants.{Free}

-- a disk without a site
abbrev pub free_slot : {D : Type 0} → D → Slot D
free_slot d = Free d

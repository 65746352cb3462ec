-- A reign.
use Rattle.std.specs.Prelude.{Bool, [], length, Option, Some, None}
use Rattle.disk_defs.specs.Disk.{View}
use Rattle.global_defs.specs.Entry as defs
use Rattle.gvn_model.specs.declared.reign.Stamp.{Stamp}
use Rattle.gvn_model.specs.Reigns.{stamp_value}
use Rattle.site_defs.specs.Contents.{Contents}
use Rattle.site_store.specs.Site.{IsOpen}
use Rattle.site_store.specs.Owning.{memory_of}
use Rattle.repl_section.specs.declared.reign.Reign.{Reign}

-- the stamp of a reign that was begun; any where none was
abbrev pub stamp_in : Option Stamp → defs.Stamp
stamp_in None = record { root = []; cycle = 0 }
stamp_in (Some stamp) = stamp_value stamp

abbrev pub stamp_of : {D : Type 0} → Reign D → defs.Stamp
stamp_of r = stamp_in (memory_of r.site).stamp

-- The reign's site is open with these contents, all entries for good.
abbrev pub Reigns : {D : Type 0} → View → Bool → Contents → Reign D → Type 0
Reigns v told c r = IsOpen v told c (length c.sequence) (memory_of r.site)

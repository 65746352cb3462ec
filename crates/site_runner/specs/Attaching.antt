-- What ATTACH does to the slot of the next disk.
use Rattle.std.specs.Prelude.{◌≡◌, ℕ, ◌++◌, List, codes, Option, Some, None, Result, Ok, Err, OnOk}
use Rattle.disk_defs.specs.Disk.{View}
use Rattle.site_defs.specs.Lists.{first_where}
use Rattle.gvn_key.specs.declared.bytes.NoMemory.{NoMemory}
use Rattle.command_defs.specs.Commands.{Name}
use Rattle.site_runner.specs.declared.slot.Slot.{Slot}
use Rattle.site_runner.specs.declared.slot.Slot.TheVariants.{Free, Down}
use Rattle.site_runner.specs.declared.ending.Ended.{Ended}
use Rattle.site_store.specs.declared.layout.Layout.{Layout}
use Rattle.site_store.specs.declared.error.SiteError.{SiteError}
use Rattle.world_defs.specs.Answers.{Empty, line, cause_text}
use Rattle.site_runner.specs.Looking.{LooksHere, Tells}
use Rattle.site_runner.specs.Sites.{disk_in, is_slot_named}

-- The disk's slot has the site of that name, unless one stands at another place already.
abbrev pub Takes : {D : Type 0} → Option ℕ → Name → D → Slot D → List ℕ → List ℕ → Type 0
Takes {D} None name disk new before now = (new ≡ Down disk name) × (now ≡ before ++ line name (codes "ATTACHED"))
Takes {D} (Some k) name disk new before now = (new ≡ Free disk) × (now ≡ before ++ line name (codes "EXISTS"))

-- What ATTACH made of the slot, and how it ended, where the look found that and left the slot so.
abbrev pub Attached : {D : Type 0} → Result (Option Layout) SiteError → List (Slot D) → Slot D → Slot D × Result Ended NoMemory → List ℕ → List ℕ → Type 0
Attached (Ok None) others mid left before now = (left.0 ≡ mid) × OnOk left.1 (now ≡ before ++ line (codes "ATTACH") (cause_text Empty))
Attached (Ok (Some found)) others mid left before now = (disk_in left.0 ≡ disk_in mid) × OnOk left.1 (Takes (first_where (is_slot_named found.name) others) found.name (disk_in mid) left.0 before now)
Attached (Err error) others mid left before now = (left.0 ≡ mid) × OnOk left.1 (Tells error (codes "ATTACH") before now)

-- The slot was looked at, and ATTACH went on by what was found.
abbrev pub AttachesHere : {D : Type 0} → (D → View) → List (Slot D) → Slot D → Slot D × Result Ended NoMemory → List ℕ → List ℕ → Type 0
AttachesHere {D} view others old left before now = (found : Result (Option Layout) SiteError) × (mid : Slot D) × LooksHere view old mid found × Attached found others mid left before now

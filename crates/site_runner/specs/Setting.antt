-- What setting a region's mode means at the place of a site that was looked at for it.
use Rattle.std.specs.Prelude.{Bool, List, ℕ}
use Rattle.disk_defs.specs.Disk.{View}
use Rattle.command_defs.specs.Commands.{Name}
use Rattle.world_defs.specs.World.{Place}
use Rattle.world_defs.specs.Step.{LeftByRow}
use Rattle.world_defs.specs.Ties.{Matches}
use Rattle.world_defs.specs.rows.SetJournal.{set_journal}
use Rattle.site_runner.specs.Sites.{Site}
use Rattle.site_runner.specs.Executes.{Comes}
use Rattle.site_runner.specs.Mapping.{IsSeenAt}
use Rattle.site_runner.specs.Steps.{IsAt}

-- Whatever place the site was looked at, SET JOURNAL with some answer leads from there to one at which it stands, and this is its text.
abbrev pub SetsAt : Name → Bool → View → Site → View → Site → List ℕ → List ℕ → Bool → Type 0
SetsAt region before v old w new was now done = (p : Place) → IsSeenAt v old p → Comes (set_journal region before old.name p) (IsAt w new) was now done

-- It was cut off for want of memory.
abbrev pub IsCutSet : Name → Bool → View → Site → View → Type 0
IsCutSet region before v old w = (p : Place) → IsSeenAt v old p → (q : Place) × LeftByRow (set_journal region before old.name p) p q × Matches w q

-- How commands on sites end, and what sites are behind them.
use Rattle.std.specs.Prelude.{◌≡◌, Bool, true, false, List, [], ◌∷◌, ◌++◌, ℕ}
use Rattle.disk_defs.specs.Disk.{View}
use Rattle.command_defs.specs.Commands.{Name}
use Rattle.repl_section.specs.declared.reign.Reign as code
use Rattle.world_defs.specs.Answers.{NoFile, line, cause_text}
use Rattle.site_runner.specs.declared.ending.Ended.{Ended}
use Rattle.site_runner.specs.declared.ending.Ended.TheVariants as ends
use Rattle.site_runner.specs.Sites.{Site, Down, Primary, Failed, reign_in, IsReadyOpen}

abbrev pub is_done_at : Ended → Bool
is_done_at ends.Done = true
is_done_at ends.Undone = false
is_done_at (ends.Failed fault) = false

-- a site that is down
abbrev pub down : Name → Site
down name = record { name = name; state = Down }

-- one that is open
abbrev pub primary : {D : Type 0} → Name → code.Reign D → Site
primary name r = record { name = name; state = Primary (reign_in r) }

-- one that has failed
abbrev pub failed : Name → ℕ → Site
failed name fault = record { name = name; state = Failed fault }

-- a site that was down, behind a command that ended so
abbrev pub down_after : Name → Ended → Site
down_after name ends.Done = down name
down_after name ends.Undone = down name
down_after name (ends.Failed fault) = failed name fault

-- a site that was open
abbrev pub primary_after : {D : Type 0} → Name → code.Reign D → Ended → Site
primary_after name r ends.Done = primary name r
primary_after name r ends.Undone = primary name r
primary_after name r (ends.Failed fault) = failed name fault

-- unless the site failed it is ready for calls
abbrev pub StaysReady : {D : Type 0} → (D → View) → code.Reign D → Ended → Type 0
StaysReady view r ends.Done = IsReadyOpen view r
StaysReady view r ends.Undone = IsReadyOpen view r
StaysReady view r (ends.Failed fault) = Unit {0}

-- a file's bytes were added, or the line that it has none
abbrev pub ShowsBytes : List ℕ → Name → List ℕ → List ℕ → Type 0
ShowsBytes [] name before now = now ≡ before ++ line name (cause_text NoFile)
ShowsBytes (x ∷ bytes) name before now = now ≡ before ++ x ∷ bytes

-- Lists of events by which a section comes about (GT.M: updates of a serial run, and a journal shipped to a secondary).
use Rattle.std.specs.Prelude.{◌≡◌, ℕ, ◌≤◌, List, [], ◌∷◌, length, Some}
use Rattle.global_defs.specs.declared.limits.TheConstants.{MOST_UPDATERS}
use Rattle.global_defs.specs.Entry.{Stamp, Sequence, Reign}
use Rattle.global_defs.specs.Jobs.{Job}
use Rattle.global_defs.specs.Serial.{Turn, next_job, picked}
use Rattle.lineage_defs.specs.Sites.{Primary, Following, Site}
use Rattle.lineage_defs.specs.Events.{Event, Send, Receive, Apply}

-- the picks find jobs
abbrev pub HaveJobs : Stamp → List ℕ → Turn → Type 0
HaveJobs stamp [] t = Unit {0}
HaveJobs stamp (u ∷ us) t = (job : Job) × (1 ≤ u) × (u ≤ MOST_UPDATERS) × (next_job u t.left ≡ Some job) × HaveJobs stamp us (picked stamp t u (Some job))

-- the primary as a serial run leaves it
abbrev pub as_decided : Site → Stamp → Turn → Site
as_decided s stamp t = record s { sequence = t.sequence; role = Primary stamp t.serials }

-- a follower that has applied all that it was sent
abbrev pub as_shipped : Site → List ℕ → Sequence → List Reign → ℕ → Site
as_shipped s primary seq reigns cycle = record s { sequence = seq; hardened = length seq; reigns = reigns; cycle = cycle; role = Following primary seq seq }

-- each of these entries is sent, received and applied before the next one
abbrev pub shipping : ℕ → Sequence → List Event
shipping j [] = []
shipping j (e ∷ es) = Send j ∷ Receive j ∷ Apply j ∷ shipping j es

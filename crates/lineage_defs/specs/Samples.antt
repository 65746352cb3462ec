-- Small sites.
use Rattle.std.specs.Prelude.{ℕ, List, [], ◌∷◌, codes, replicate}
use Rattle.global_defs.specs.Entry.{Stamp, Entry, Sequence, Reign}
use Rattle.global_defs.specs.Serial.{entry_of}
use Rattle.lineage_defs.specs.Sites.{Role, Down, Primary, Following, Site}
use Rattle.lineage_defs.specs.Events.{reign_from}

-- the names of two sites
abbrev pub A : List ℕ
A = codes "A"

abbrev pub B : List ℕ
B = codes "B"

-- a stamp and a reign by their parts
abbrev pub stamp : List ℕ → ℕ → Stamp
stamp root cycle = record { root = root; cycle = cycle }

abbrev pub reign : List ℕ → ℕ → ℕ → Reign
reign root cycle start = reign_from start (stamp root cycle)

-- an entry of updater 1, under a stamp and a serial
abbrev pub entry : List ℕ → ℕ → ℕ → Entry
entry root cycle serial = entry_of (stamp root cycle) 1 serial []

-- A in its first reign
abbrev pub with_entries : Sequence → ℕ → Role → Site
with_entries seq hardened role = record { name = A; sequence = seq; hardened = hardened; reigns = reign A 1 1 ∷ []; cycle = 1; role = role }

-- a primary whose one entry isn't hardened
abbrev pub unhardened : Site
unhardened = with_entries (entry A 1 1 ∷ []) 0 (Primary (stamp A 1) (replicate 64 1))

-- A with one entry that is hardened
abbrev pub whole : Site
whole = with_entries (entry A 1 1 ∷ []) 1 Down

-- A's follower, which has nothing
abbrev pub behind : Site
behind = record { name = B; sequence = []; hardened = 0; reigns = []; cycle = 0; role = Following A [] [] }

-- a site with an entry of its own
abbrev pub parted : Site
parted = record { name = B; sequence = entry B 1 1 ∷ []; hardened = 1; reigns = reign B 1 1 ∷ []; cycle = 1; role = Down }

-- a site whose second and third reign were dropped
abbrev pub set_back_twice : Site
set_back_twice = record { name = A; sequence = entry A 1 1 ∷ []; hardened = 1; reigns = reign A 1 1 ∷ []; cycle = 3; role = Down }

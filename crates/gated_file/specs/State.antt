-- What a gated file has: which of its records every image has, which of them some may have, and what stands behind closed
-- gates. Several bodies may be appended before one sync, and their gates opened before the next.
use Rattle.std.specs.Prelude.{◌≡◌, ℕ, ◌+◌, Bool, IsTrue, List, [], ◌∷◌, ◌++◌, length}
use Rattle.disk_defs.specs.Gates.{Body, framed, spelled, spelled_with}

pub record State : Type 0 where
  -- the records that every image has
  pub hard : List Body
  -- those whose gates were opened since the last sync: an image has the first few of them
  pub opening : List Body
  -- those that were appended behind closed gates: no image has any of them
  pub closed : List Body

-- records behind closed gates, of which the first is this one, the last closed gate, and what stands behind it
abbrev pub shut : ℕ → List Body → List ℕ → List ℕ
shut gate [] tail = gate ∷ tail
shut gate (body ∷ bodies) tail = gate ∷ framed body ++ shut 0 bodies tail

abbrev pub ones : List Body → List ℕ
ones [] = []
ones (body ∷ bodies) = 1 ∷ ones bodies

-- a file with these records, with gates for some of them, and what comes then
abbrev pub text_with : List Body → List ℕ → List Body → List ℕ → List ℕ
text_with sure gates more rest = spelled 1 sure ++ (spelled_with gates more ++ rest)

-- the file as it reads, with this first closed gate and this behind the last one
abbrev pub text : State → ℕ → List ℕ → List ℕ
text s gate tail = text_with s.hard (ones s.opening) s.opening (shut gate s.closed tail)

-- The file in an image: the gates that were opened have any bytes, and behind the first closed gate anything stands until a sync.
pub record IsImage (s : State) (gate : ℕ) (tail : List ℕ) (is_synced : Bool) (bytes : List ℕ) : Type 0 where
  pub gates : List ℕ
  pub rest : List ℕ
  pub same : length gates ≡ length s.opening
  pub is : bytes ≡ text_with s.hard gates s.opening (gate ∷ rest)
  pub settled : IsTrue is_synced → gate ∷ rest ≡ shut gate s.closed tail

-- where the first closed gate stands, and where the others do
abbrev pub place : State → ℕ
place s = length (spelled 1 s.hard) + length (spelled 1 s.opening)

abbrev pub places : ℕ → List Body → List ℕ
places at [] = []
places at (body ∷ bodies) = at ∷ places (at + 5 + length body) bodies

-- after one more body
abbrev pub appended : State → Body → State
appended s body = record { hard = s.hard; opening = s.opening; closed = s.closed ++ body ∷ [] }

-- after a sync
abbrev pub synced : State → State
synced s = record { hard = s.hard ++ s.opening; opening = []; closed = s.closed }

-- after the first closed gate is opened
abbrev pub opened_one : State → Body → List Body → State
opened_one s body bodies = record { hard = s.hard; opening = s.opening ++ body ∷ []; closed = bodies }

-- after all are opened
abbrev pub opened_all : State → State
opened_all s = record { hard = s.hard; opening = s.opening ++ s.closed; closed = [] }

-- with these records alone, all of them on the disk
abbrev pub settled : List Body → State
settled bodies = record { hard = bodies; opening = []; closed = [] }

-- What a primary sends behind its RESUME. (GT.M: a Source Server ships from the resync sequence number on.)
use Rattle.std.specs.Prelude.{ℕ, ◌+◌, ◌-◌, ◌==◌, ◌||◌, Bool, true, false, List, [], ◌∷◌, ◌++◌, length, Option, Some, None, if◌then◌else◌}
use Rattle.std.specs.Int.{to_be_bytes, w32}
use Rattle.std.specs.List.{last_or}
use Rattle.global_defs.specs.Entry.{Transaction, Reign}
use Rattle.global_defs.specs.Rising.{begun_by}
use Rattle.wire_defs.specs.Frames.{Frame, Resume, History, Entry, Bye, entry_bytes, spelled_frame, stream}

-- the reign of an entry's number: the last one that has begun by then
abbrev pub reign_at : ℕ → List Reign → Option Reign
reign_at n reigns = last_or None (begun_by n reigns)

-- the HISTORY before an entry, where it is the connection's first or its reign's
abbrev pub announced : (first : Bool) → (n : ℕ) → Option Reign → List Frame
announced first n None = []
announced first n (Some r) = if first || r.start == n then History r ∷ [] else []

-- the frames of these entries, of which the first has the number n and may be the connection's first
abbrev pub shipped : List Reign → (first : Bool) → (n : ℕ) → List Transaction → List Frame
shipped reigns first n [] = []
shipped reigns first n (t ∷ ts) = announced first n (reign_at n reigns) ++ Entry n t ∷ shipped reigns false (n + 1) ts

-- an ENTRY by its entry's bytes
abbrev pub entry_frame : List ℕ → List ℕ
entry_frame body = 5 ∷ to_be_bytes w32 (length body) ++ body

-- The same as bytes, by the entries' bytes: a Source Server knows no more of an entry from the pool until the pool is settled.
abbrev pub shipped_bytes : List Reign → (first : Bool) → (n : ℕ) → (bodies : List (List ℕ)) → List ℕ
shipped_bytes reigns first n [] = []
shipped_bytes reigns first n (body ∷ bodies) = stream (announced first n (reign_at n reigns)) ++ entry_frame body ++ shipped_bytes reigns false (n + 1) bodies

-- the bytes of entries from number n on
abbrev pub bytes_from : ℕ → List Transaction → List (List ℕ)
bytes_from n [] = []
bytes_from n (t ∷ ts) = entry_bytes n t ∷ bytes_from (n + 1) ts

-- all that a primary sends until a BYE, from the resume number on
abbrev pub resumed : List Reign → (from : ℕ) → List Transaction → List Frame
resumed reigns from ts = Resume from ∷ shipped reigns true from ts

abbrev pub resumed_bytes : List Reign → (from : ℕ) → (bodies : List (List ℕ)) → List ℕ
resumed_bytes reigns from bodies = spelled_frame (Resume from) ++ shipped_bytes reigns true from bodies

-- a whole connection in a section: the primary has no further entries
abbrev pub connection : List Reign → (from : ℕ) → List Transaction → List Frame
connection reigns from ts = resumed reigns from ts ++ Bye (from + length ts - 1) ∷ []

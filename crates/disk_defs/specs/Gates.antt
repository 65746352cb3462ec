-- Gated files: bodies behind gate bytes, so that a record counts only once its gate was opened.
--
-- The layout of this project. At a place stands a gate byte; 01 is open, every other byte is closed. After an open gate
-- stand a length of four bytes, big-endian, from 1 to 1,048,576, the body of that length, and the next gate. The list of
-- records ends at the first closed gate. A file shorter than two bytes has none. An open gate whose length is out of
-- range, or whose body and next gate pass the file's end, is outside the format.
use Rattle.std.specs.Prelude.{◌≡◌, ℕ, zero, suc, ◌+◌, ◌≤◌, ◌==◌, ◌&&◌, nat_le, nat_lt, Bool, if◌then◌else◌, List, [], ◌∷◌, ◌++◌, length, take, drop, Option, Some, None}
use Rattle.std.specs.Option.{option_map}
use Rattle.std.specs.Int.{from_be_bytes, to_be_bytes, w32}
use Rattle.global_defs.specs.declared.limits.TheConstants.{LONGEST_BODY}

-- a record's bytes
abbrev pub Body : Type 0
Body = List ℕ

-- what stands at a gate: it's closed, or it's open and has a body and the bytes from the next gate on, or neither
pub data Gate : Type 0 where
  Shut : Gate
  Open : (body : Body) → (rest : List ℕ) → Gate
  NoGate : Gate

-- a body may have this length, and it and the next gate stand in the file
abbrev pub fits : ℕ → List ℕ → Bool
fits n rest = nat_le 1 n && nat_le n LONGEST_BODY && nat_le (n + 5) (length rest)

abbrev pub behind_length : ℕ → List ℕ → Gate
behind_length n rest = if fits n rest then Open (take n (drop 4 rest)) (drop (4 + n) rest) else NoGate

-- a length of four bytes, the body and the next gate
abbrev pub behind : List ℕ → Gate
behind rest = behind_length (from_be_bytes w32 (take 4 rest)) rest

abbrev pub gate_of : List ℕ → Gate
gate_of [] = NoGate
gate_of (gate ∷ rest) = if gate == 1 then behind rest else Shut

-- the bodies from here on, where what follows a record gives those after it
abbrev pub bodies_from : (List ℕ → Option (List Body)) → Gate → Option (List Body)
bodies_from next Shut = Some []
bodies_from next (Open body rest) = option_map (λ bodies. body ∷ bodies) (next rest)
bodies_from next NoGate = None

-- the bodies from a gate on up to the first closed one, in at most so many records
abbrev pub bodies_within : ℕ → List ℕ → Option (List Body)
bodies_within zero bytes = None
bodies_within (suc n) bytes = bodies_from (λ rest. bodies_within n rest) (gate_of bytes)

-- the bodies of a file, where it is in the format; a file shorter than two bytes has none
abbrev pub records : List ℕ → Option (List Body)
records file = if nat_lt (length file) 2 then Some [] else bodies_within (length file) file

-- what stands at a place of a file; in a file shorter than two bytes nothing does
abbrev pub gate_at : List ℕ → ℕ → Gate
gate_at file at = if nat_lt (length file) 2 then Shut else gate_of (drop at file)

-- the bodies of a file from a place on
abbrev pub bodies_at : List ℕ → ℕ → Option (List Body)
bodies_at file at = if nat_lt (length file) 2 then Some [] else bodies_within (length file) (drop at file)

-- a record as it is written behind its gate
abbrev pub framed : Body → List ℕ
framed body = to_be_bytes w32 (length body) ++ body

-- records behind gates of one kind
abbrev pub spelled : ℕ → List Body → List ℕ
spelled gate [] = []
spelled gate (body ∷ bodies) = gate ∷ framed body ++ spelled gate bodies

-- each behind its own gate
abbrev pub spelled_with : List ℕ → List Body → List ℕ
spelled_with gates [] = []
spelled_with [] (body ∷ bodies) = []
spelled_with (gate ∷ gates) (body ∷ bodies) = gate ∷ framed body ++ spelled_with gates bodies

pub record IsBody (body : Body) : Type 0 where
  pub not_empty : 1 ≤ length body
  pub not_long : length body ≤ LONGEST_BODY

-- The file has the records of `sure`, and then the first few of `more`.
abbrev pub Stands : List Body → List Body → List ℕ → Type 0
Stands sure more file = (n : ℕ) × (n ≤ length more) × (records file ≡ Some (sure ++ take n more))

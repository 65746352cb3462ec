-- Frames: what a primary and a secondary send each other. (GT.M: the messages of a Source Server and a Receiver Server; the layout is this project's.)
use Rattle.std.specs.Prelude.{◌≡◌, ℕ, ◌+◌, ◌-◌, ◌^◌, ◌<◌, ◌≤◌, min, List, [], ◌∷◌, ◌++◌, length}
use Rattle.std.specs.Int.{to_be_bytes, w16, w32, w64}
use Rattle.std.specs.List.{AllByRecursion, flat_map}
use Rattle.global_defs.specs.declared.limits.TheConstants.{LONGEST_BODY, NUMBERS_END}
use Rattle.global_defs.specs.Entry.{Transaction, Reign}
use Rattle.global_defs.specs.Prefix as prefix
use Rattle.global_defs.specs.Fields.{short, spelled_update, IsSiteName, IsNumber, IsReign, IsTransaction}

pub data Frame : Type 0 where
  -- to the primary: a version, the secondary's name and its history
  Hello : (version : ℕ) → (name : List ℕ) → prefix.History → Frame
  -- the number from which the entries follow
  Resume : ℕ → Frame
  -- the first number that the secondary has to take back
  RollbackFirst : ℕ → Frame
  -- the reign of the entries that follow
  History : Reign → Frame
  -- an entry's number, and what it does
  Entry : ℕ → Transaction → Frame
  -- how many entries the primary has
  Bye : ℕ → Frame

-- a root's name behind its length, a cycle and a start
abbrev pub spelled_reign : Reign → List ℕ
spelled_reign r = short r.stamp.root ++ to_be_bytes w32 r.stamp.cycle ++ to_be_bytes w64 r.start

-- a number, an updater, a serial, how many updates there are, and the updates
abbrev pub entry_bytes : ℕ → Transaction → List ℕ
entry_bytes number t = to_be_bytes w64 number ++ t.origin.updater ∷ to_be_bytes w32 t.origin.serial ++ to_be_bytes w16 (length t.updates) ++ flat_map spelled_update t.updates

abbrev pub frame_type : Frame → ℕ
frame_type (Hello version name history) = 1
frame_type (Resume n) = 2
frame_type (RollbackFirst n) = 3
frame_type (History r) = 4
frame_type (Entry n t) = 5
frame_type (Bye n) = 6

abbrev pub frame_body : Frame → List ℕ
frame_body (Hello version name history) = version ∷ short name ++ to_be_bytes w64 history.length ++ to_be_bytes w32 (length history.reigns) ++ flat_map spelled_reign history.reigns
frame_body (Resume n) = to_be_bytes w64 n
frame_body (RollbackFirst n) = to_be_bytes w64 n
frame_body (History r) = spelled_reign r
frame_body (Entry n t) = entry_bytes n t
frame_body (Bye n) = to_be_bytes w64 n

-- a type, the body's length, and the body
abbrev pub spelled_frame : Frame → List ℕ
spelled_frame f = frame_type f ∷ to_be_bytes w32 (length (frame_body f)) ++ frame_body f

-- a length of a sequence
abbrev pub IsLength : ℕ → Type 0
IsLength n = n < NUMBERS_END

-- the fields of a frame are of their form
abbrev pub HasFields : Frame → Type 0
HasFields (Hello version name history) = (version ≡ 1) × IsSiteName name × IsLength history.length × (length history.reigns < 2 ^ 32) × AllByRecursion IsReign history.reigns
HasFields (Resume n) = (1 ≤ n) × (n ≤ NUMBERS_END)
HasFields (RollbackFirst n) = IsNumber n
HasFields (History r) = IsReign r
HasFields (Entry n t) = IsNumber n × IsTransaction t
HasFields (Bye n) = IsLength n

-- a well-formed frame, whatever comes before it on a connection
pub record IsFrame (f : Frame) : Type 0 where
  pub fields : HasFields f
  pub short : length (frame_body f) ≤ LONGEST_BODY

-- frames one after another
abbrev pub stream : List Frame → List ℕ
stream fs = flat_map spelled_frame fs

-- The bytes begin a well-formed frame, which isn't whole yet.
abbrev pub BeginsFrame : List ℕ → Type 0
BeginsFrame bytes = (f : Frame) × (b : ℕ) × (more : List ℕ) × IsFrame f × (spelled_frame f ≡ bytes ++ b ∷ more)

-- No well-formed frame begins so, and none stands at the front.
pub record BeginsNone (bytes : List ℕ) : Type 0 where
  pub none_goes_on : (f : Frame) (more : List ℕ) → IsFrame f → spelled_frame f ≡ bytes ++ more → ⊥
  pub none_stands : (f : Frame) (more : List ℕ) → IsFrame f → bytes ≡ spelled_frame f ++ more → ⊥

-- The bytes are these well-formed frames, and then this rest.
pub record AreFrames (bytes : List ℕ) (fs : List Frame) (rest : List ℕ) : Type 0 where
  pub whole : bytes ≡ stream fs ++ rest
  pub each : AllByRecursion IsFrame fs

-- What contracts see of a reader of frames: how many bytes of whole frames it has taken, at most 2 ^ 64 - 1, and the bytes after them.
pub record Reading : Type 0 where
  pub offset : ℕ
  pub rest : List ℕ

-- where a frame begins behind these frames, the first of which begins at that offset
abbrev pub offset_after : ℕ → List Frame → ℕ
offset_after offset fs = min (offset + length (stream fs)) (2 ^ 64 - 1)

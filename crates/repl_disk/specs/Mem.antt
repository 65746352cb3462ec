-- What a disk in memory shows: its calls since the last crash, replayed over what that crash left.
use Rattle.std.specs.Prelude.{◌≡◌, ◌≢◌, ℕ, zero, suc, ◌+◌, ◌-◌, ◌≤◌, ◌<◌, ◌==◌, Bool, true, false, if◌then◌else◌, List, [], ◌∷◌, ◌++◌, length, take, drop, replicate, slice_index_or, Some}
use Rattle.disk_defs.specs.Disk.{Files, View, written}

-- a call that changed what files have, or what is on the disk; the bytes of all writes stand together, in order
pub data Call : Type 0 where
  -- so many bytes were written to the file from a place on
  Wrote : ℕ → ℕ → ℕ → Call
  -- a sync of the file succeeded
  Synced : ℕ → Call

-- a file as it reads, as it was synced last, and for each place whether it was written since
pub record Mem : Type 0 where
  pub read : List ℕ
  pub synced : List ℕ
  pub marks : List Bool

-- any bytes in each range written since the last sync, any end between the synced and the written one; all else is as read
pub record IsImageOf (m : Mem) (c : List ℕ) : Type 0 where
  pub no_shorter : length m.synced ≤ length c
  pub no_longer : length c ≤ length m.read
  pub same : (i : ℕ) → i < length c → slice_index_or m.marks i true ≡ false → slice_index_or c i 0 ≡ slice_index_or m.read i 0

abbrev pub States : Type 0
States = ℕ → Mem

abbrev pub put : ℕ → Mem → States → States
put file m old f = if f == file then m else old f

-- all of it is on the disk
abbrev pub settled : List ℕ → Mem
settled bytes = record { read = bytes; synced = bytes; marks = replicate (length bytes) false }

-- the same with so many places from this one on marked
abbrev pub marked : List Bool → ℕ → ℕ → List Bool
marked marks at n = take at marks ++ replicate n true ++ drop (at + n) marks

abbrev pub wrote : ℕ → List ℕ → Mem → Mem
wrote at bytes m = record { read = written m.read at bytes; synced = m.synced; marks = marked m.marks at (length bytes) }

-- the last so many of the bytes, and those before them
abbrev pub last : ℕ → List ℕ → List ℕ
last n kept = drop (length kept - n) kept

abbrev pub front : ℕ → List ℕ → List ℕ
front n kept = take (length kept - n) kept

-- the bytes of the calls before this one
abbrev pub before : Call → List ℕ → List ℕ
before (Wrote file at n) kept = front n kept
before (Synced file) kept = kept

abbrev pub after : Call → List ℕ → States → States
after (Wrote file at n) kept old = put file (wrote at (last n kept) (old file)) old
after (Synced file) kept old = put file (settled (old file).read) old

-- the files after these calls, the newest first, with what the last crash left and the bytes of all writes since
abbrev pub replay : Files → List Call → List ℕ → States
replay left [] kept f = settled (left f)
replay left (call ∷ calls) kept f = after call kept (replay left calls (before call kept)) f

-- the files so many calls ago
abbrev pub ago : Files → ℕ → List Call → List ℕ → States
ago left zero calls kept f = replay left calls kept f
ago left (suc n) [] kept f = settled (left f)
ago left (suc n) (call ∷ calls) kept f = ago left n calls (before call kept) f

abbrev pub IsImageAt : States → Files → Type 0
IsImageAt states c = (f : ℕ) → IsImageOf (states f) (c f)

-- an image at one of the moments from this one on; what was before the last crash is forgotten
abbrev pub Since : Files → List Call → List ℕ → ℕ → Files → Type 0
Since left calls kept t c = (n : ℕ) × (n + t ≤ length calls) × IsImageAt (ago left n calls kept) c

-- the room that is left on a file
pub record Room : Type 0 where
  pub calls : ℕ
  pub bytes : ℕ

abbrev pub HasRoom : (ℕ → Room) → ℕ → ℕ → ℕ → Type 0
HasRoom rooms file calls bytes = (calls ≤ (rooms file).calls) × (bytes ≤ (rooms file).bytes)

-- a call that writes so many bytes took room on one file
pub record RoomTaken (file n : ℕ) (old new : ℕ → Room) : Type 0 where
  pub calls : (new file).calls + 1 ≡ (old file).calls
  pub bytes : (new file).bytes + n ≡ (old file).bytes
  pub others : (f : ℕ) → f ≢ file → new f ≡ old f

-- one file was given so much more room
pub record RoomGiven (file more_calls more_bytes : ℕ) (old new : ℕ → Room) : Type 0 where
  pub calls : (new file).calls ≡ (old file).calls + more_calls
  pub bytes : (new file).bytes ≡ (old file).bytes + more_bytes
  pub others : (f : ℕ) → f ≢ file → new f ≡ old f

abbrev pub mem_view : Files → List Call → List ℕ → (ℕ → Room) → ℕ → View
mem_view left calls kept rooms faults = record {
  content = Some (λ f. (replay left calls kept f).read);
  moment = length calls;
  since = Since left calls kept;
  faults = faults;
  simulated = true;
  has_room = HasRoom rooms;
}

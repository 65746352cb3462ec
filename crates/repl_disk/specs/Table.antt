-- The table of files in memory.
use Rattle.std.specs.Prelude.{◌≡◌, ◌≢◌, ℕ, ◌+◌, ◌-◌, ◌≤◌, ◌<◌, ◌==◌, false, if◌then◌else◌, List, [], ◌∷◌, ◌++◌, length, take, replicate, slice_index_or, vec_capacity}
use Rattle.std.specs.List.Sorted.{IsNonDecreasingBy}
use Rattle.global_defs.specs.Counts.{counted_on}
use Rattle.disk_defs.specs.Disk.{Files}
use Rattle.repl_disk.specs.Mem.{Mem, Room, settled, wrote, IsImageOf}
use Rattle.repl_disk.specs.declared.file.MemFile.{MemFile}

-- what a file shows; before `low` it was synced as it reads, and no place there was written since
abbrev pub mem_of : MemFile → Mem
mem_of m = record { read = m.read.items; synced = take m.low m.read.items ++ m.synced.items; marks = replicate m.low false ++ m.marks.items }

abbrev pub room_of : MemFile → Room
room_of m = record { calls = m.calls_left; bytes = m.bytes_left }

-- what the table has of a file
pub record Entry : Type 0 where
  pub mem : Mem
  pub left : List ℕ
  pub room : Room
  -- how many calls of sync on it have succeeded
  pub syncs : ℕ

abbrev pub entry_of : MemFile → Entry
entry_of m = record { mem = mem_of m; left = m.left.items; room = room_of m; syncs = m.syncs }

abbrev pub nothing : Entry
nothing = record { mem = settled []; left = []; room = record { calls = 0; bytes = 0 }; syncs = 0 }

-- the file of this number; one that is not there is empty
abbrev pub entry_in : List MemFile → ℕ → Entry
entry_in [] f = nothing
entry_in (m ∷ files) f = if f == m.number then entry_of m else entry_in files f

abbrev pub put_entry : ℕ → Entry → (ℕ → Entry) → ℕ → Entry
put_entry file e old f = if f == file then e else old f

abbrev pub entry_written : ℕ → List ℕ → Entry → Entry
entry_written at bytes e = record { mem = wrote at bytes e.mem; left = e.left; room = record { calls = e.room.calls - 1; bytes = e.room.bytes - length bytes }; syncs = e.syncs }

abbrev pub entry_synced : Entry → Entry
entry_synced e = record { mem = settled e.mem.read; left = e.left; room = record { calls = e.room.calls - 1; bytes = e.room.bytes }; syncs = counted_on e.syncs }

abbrev pub entry_grown : ℕ → ℕ → Entry → Entry
entry_grown calls bytes e = record { mem = e.mem; left = e.left; room = record { calls = e.room.calls + calls; bytes = e.room.bytes + bytes }; syncs = e.syncs }

-- a crash made one of its images what it has
pub record IsCrashed (old new : Entry) : Type 0 where
  pub image : IsImageOf old.mem new.left
  pub mem : new.mem ≡ settled new.left
  pub room : new.room ≡ old.room
  pub syncs : new.syncs ≡ old.syncs

-- the first file of this number stands there
pub record IsFirst (files : List MemFile) (number i : ℕ) : Type 0 where
  pub inside : i < length files
  pub here : (d : MemFile) → (slice_index_or files i d).number ≡ number
  pub before : (k : ℕ) (d : MemFile) → k < i → (slice_index_or files k d).number ≢ number

-- no file of this number is there
abbrev pub IsAbsent : List MemFile → ℕ → Type 0
IsAbsent files number = (k : ℕ) (d : MemFile) → k < length files → (slice_index_or files k d).number ≢ number

-- the numbers before this place are lower, and no other is
pub record IsBound (files : List MemFile) (number i : ℕ) : Type 0 where
  pub inside : i ≤ length files
  pub below : (k : ℕ) (d : MemFile) → k < i → (slice_index_or files k d).number < number
  pub behind : (k : ℕ) (d : MemFile) → i ≤ k → k < length files → number ≤ (slice_index_or files k d).number

-- a new file of this number stands there between those of lower and of higher numbers
pub record IsPlaceFor (files : List MemFile) (number i : ℕ) : Type 0 where
  pub inside : i ≤ length files
  pub below : (k : ℕ) (d : MemFile) → k < i → (slice_index_or files k d).number < number
  pub above : (k : ℕ) (d : MemFile) → i ≤ k → k < length files → number < (slice_index_or files k d).number

-- What holds of each file: it was synced up to its end at most, each place from `low` on has a mark or none, and each list
-- has memory for the whole file and the bytes that the room lets be written.
pub record HasMemory (m : MemFile) : Type 0 where
  pub for_read : length m.read.items + m.bytes_left ≤ vec_capacity m.read
  pub for_synced : length m.read.items + m.bytes_left ≤ vec_capacity m.synced
  pub for_marks : length m.read.items + m.bytes_left ≤ vec_capacity m.marks

pub record IsKept (m : MemFile) : Type 0 where
  pub ends : m.low + length m.synced.items ≤ length m.read.items
  pub marks : m.low + length m.marks.items ≡ length m.read.items
  pub memory : HasMemory m

-- that of all of them, which stand by rising number
pub record AreKept (files : List MemFile) : Type 0 where
  pub each : (k : ℕ) (d : MemFile) → k < length files → IsKept (slice_index_or files k d)
  pub rising : IsNonDecreasingBy (λ (m : MemFile). m.number) files

-- the room that is left on all files together
abbrev pub all_calls : List MemFile → ℕ
all_calls [] = 0
all_calls (m ∷ files) = m.calls_left + all_calls files

abbrev pub all_bytes : List MemFile → ℕ
all_bytes [] = 0
all_bytes (m ∷ files) = m.bytes_left + all_bytes files

-- what the last crash left of each file
abbrev pub lefts : List MemFile → Files
lefts files f = (entry_in files f).left

-- how many calls of sync on each file have succeeded
abbrev pub syncs_of : List MemFile → ℕ → ℕ
syncs_of files f = (entry_in files f).syncs

-- the room that is left on each file
abbrev pub rooms : List MemFile → ℕ → Room
rooms files f = (entry_in files f).room

-- Disks, what a crash may leave of them, and the moments of calls.
--
-- The model of this project. A file is a list of bytes. A crash leaves any bytes in each range that was written since the
-- file's last sync that succeeded, and any end between the synced and the written one; all else stays. Clauses speak of
-- each moment since a call began, so a crash within a call is covered by the clause of that call.
use Rattle.std.specs.Prelude.{◌≡◌, ◌≢◌, ◌⊎◌, ℕ, ◌+◌, ◌≤◌, max, Bool, List, ◌++◌, length, take, drop, Option, Some, None, IfSome, IsSome, IsSomeAnd, IsTrue}
pub use Rattle.global_defs.specs.Counts.{Rose, HasCause}

-- the bytes of each file, by its number; a file that was never written has none
abbrev pub Files : Type 0
Files = ℕ → List ℕ

-- What contracts see of a disk.
pub record View : Type 1 where
  -- what reads give, where the disk tells it
  pub content : Option Files
  -- a number that doesn't fall
  pub moment : ℕ
  -- the images that a crash at some moment from that one on might have left, all files together
  pub since : ℕ → Files → Type 0
  -- how many calls have failed; at its last value, 2^64 - 1, it stays
  pub faults : ℕ
  -- whether it can be made to fail and to crash
  pub simulated : Bool
  -- on that file room is left for so many calls of write and sync that write so many bytes together
  pub has_room : ℕ → ℕ → ℕ → Type 0

-- what a crash at this moment may leave
abbrev pub Image : View → Files → Type 0
Image v c = v.since v.moment c

-- What holds of each disk at each moment.
pub record IsLawful (v : View) : Type 0 where
  pub told : IsTrue v.simulated → IsSome v.content
  -- a disk as it reads is one of its images
  pub as_read : IfSome v.content (λ files. v.since v.moment files)
  -- this moment is one of those since an earlier one
  pub counts_now : (t : ℕ) (c : Files) → t ≤ v.moment → Image v c → v.since t c
  pub no_room : (file : ℕ) → v.has_room file 0 0
  pub less_room : (file m n k l : ℕ) → m ≤ k → n ≤ l → v.has_room file k l → v.has_room file m n

-- new is old with these bytes at this place
abbrev pub written : List ℕ → ℕ → List ℕ → List ℕ
written old at bytes = take at old ++ bytes ++ drop (at + length bytes) old

-- after a write of n bytes that a crash cuts short: any bytes in the range and past the old end, the same elsewhere
pub record Torn (at n : ℕ) (old new : List ℕ) : Type 0 where
  pub before : take at new ≡ take at old
  pub after : drop (at + n) new ≡ drop (at + n) old
  pub no_shorter : length old ≤ length new
  pub no_longer : length new ≤ max (length old) (at + n)

-- a step on one file; the others stay
pub record OnFile (file : ℕ) (step : List ℕ → List ℕ → Type 0) (old new : Files) : Type 0 where
  pub here : step (old file) (new file)
  pub others : (f : ℕ) → f ≢ file → new f ≡ old f

abbrev pub Same : Files → Files → Type 0
Same old new = new ≡ old

-- this is an old image after a step
abbrev pub From : (Files → Type 0) → (Files → Files → Type 0) → Files → Type 0
From images step c = (d : Files) × images d × step d c

-- One call of a disk: time goes on, and each image now is one from before the call after a step.
pub record Passes (step : Files → Files → Type 0) (old new : View) : Type 0 where
  pub later : old.moment ≤ new.moment
  pub images : (c : Files) → Image new c → From (Image old) step c
  -- a crash since t might have left what it might have left before, or what it may leave now
  pub nothing_else : (t : ℕ) (c : Files) → t ≤ old.moment → new.since t c → old.since t c ⊎ Image new c
  pub keeps : (t : ℕ) (c : Files) → t ≤ old.moment → old.since t c → new.since t c
  pub simulated : new.simulated ≡ old.simulated

-- Each image at each moment since old has P.
pub record AtEachMoment (old new : View) (P : Files → Type 0) : Type 0 where
  pub later : old.moment ≤ new.moment
  pub each : (c : Files) → new.since old.moment c → P c
  -- for a run that began earlier
  pub before : (t : ℕ) (c : Files) → t ≤ old.moment → new.since t c → old.since t c ⊎ P c

-- the count doesn't fall, and the call fails only where it rose, with the count as it is then
pub record MayFail (old new : ℕ) (failed : ℕ → Type 0) : Type 0 where
  pub later : old ≤ new
  pub count : (fault : ℕ) → failed fault → fault ≡ new
  pub cause : (fault : ℕ) → failed fault → Rose old new

-- the same where the error doesn't carry the count
pub record MayFailUncounted (old new : ℕ) (failed : Type 0) : Type 0 where
  pub later : old ≤ new
  pub cause : failed → Rose old new

-- what reads give changes by a step, where the disk tells it
abbrev pub ReadsAfter : (Files → Files → Type 0) → Option Files → Option Files → Type 0
ReadsAfter step None new = new ≡ None
ReadsAfter step (Some files) new = IsSomeAnd new (step files)

-- these bytes, and no others, are what a crash leaves of the file
abbrev pub IsDurable : View → ℕ → List ℕ → Type 0
IsDurable v file bytes = (c : Files) → Image v c → c file ≡ bytes

-- room that was there on a file is still there
abbrev pub RoomStays : View → View → ℕ → Type 0
RoomStays old new file = (calls bytes : ℕ) → old.has_room file calls bytes → new.has_room file calls bytes

-- a call that writes so many bytes uses up room on one file
pub record RoomUsed (file n : ℕ) (old new : View) : Type 0 where
  pub used : (calls bytes : ℕ) → old.has_room file (calls + 1) (bytes + n) → new.has_room file calls bytes
  pub others : (f : ℕ) → f ≢ file → RoomStays old new f

-- room for so many more calls and bytes on one file
pub record RoomAdded (file calls bytes : ℕ) (old new : View) : Type 0 where
  pub added : (m n : ℕ) → old.has_room file m n → new.has_room file (m + calls) (n + bytes)
  pub others : (f : ℕ) → f ≢ file → RoomStays old new f

-- A call that reads, and leaves the disk as it is.
pub record Reads (old new : View) : Type 0 where
  pub content : new.content ≡ old.content
  pub passes : Passes Same old new
  pub room : (f : ℕ) → RoomStays old new f

-- Which files a call may change. A layer owns a set of files, by their numbers; every other file stays.
use Rattle.std.specs.Prelude.{◌≡◌, ◌⊎◌, ℕ, List}
use Rattle.disk_defs.specs.Disk.{Files, View, Image, From, ReadsAfter, RoomStays}

-- the set of one file
abbrev pub Only : ℕ → ℕ → Type 0
Only file f = f ≡ file

-- the files of two sets
abbrev pub Either : (ℕ → Type 0) → (ℕ → Type 0) → ℕ → Type 0
Either F G f = F f ⊎ G f

-- each file of the first set is in the second
abbrev pub IsWithin : (ℕ → Type 0) → (ℕ → Type 0) → Type 0
IsWithin F G = (f : ℕ) → F f → G f

-- no file is in both
abbrev pub AreApart : (ℕ → Type 0) → (ℕ → Type 0) → Type 0
AreApart F G = (f : ℕ) → F f → G f → ⊥

-- the files outside a set are the same
abbrev pub SameOutside : (ℕ → Type 0) → Files → Files → Type 0
SameOutside F old new = (f : ℕ) → (F f → ⊥) → new f ≡ old f

-- All files outside a set stay: as they read, in each image, and the room on them. The disk stays simulated or not.
pub record OthersStay (F : ℕ → Type 0) (old new : View) : Type 0 where
  pub content : ReadsAfter (SameOutside F) old.content new.content
  pub images : (c : Files) → Image new c → From (Image old) (SameOutside F) c
  pub room : (f : ℕ) → (F f → ⊥) → RoomStays old new f
  pub simulated : new.simulated ≡ old.simulated

-- An image has P, and outside a set of files it's an image from before the call.
pub record OnlyIn (old : View) (F : ℕ → Type 0) (P : Files → Type 0) (c : Files) : Type 0 where
  pub here : P c
  pub others : From (Image old) (SameOutside F) c

-- the same of one file and its bytes
abbrev pub OnlyOn : View → ℕ → (List ℕ → Type 0) → Files → Type 0
OnlyOn old file P = OnlyIn old (Only file) (λ c. P (c file))

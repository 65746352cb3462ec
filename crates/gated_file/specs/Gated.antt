-- A gated file on a disk.
use Rattle.std.specs.Prelude.{◌≡◌, ◌≢◌, ◌≤◌, ◌<◌, ℕ, ◌+◌, ◌*◌, ◌^◌, min, true, List, [], ◌++◌, length, Some, IfSome, IsSomeAnd, vec_capacity}
use Rattle.std.specs.VecDeque.{deque_capacity}
use Rattle.std.specs.List.{AllByRecursion}
use Rattle.global_defs.specs.declared.limits.TheConstants.{LONGEST_BODY}
use Rattle.disk_defs.specs.Disk.{Files, View, Image}
use Rattle.disk_defs.specs.Gates.{spelled, IsBody, records, Stands}
use Rattle.gated_file.specs.State.{State, text, IsImage, place, places}
use Rattle.gated_file.specs.declared.gated.Gated.{Gated}

-- the file as it reads and in each image
pub record Holds (v : View) (g : Gated) (s : State) (files : Files) : Type 0 where
  -- what it stands for
  pub reads : records (files g.file) ≡ Some (s.hard ++ s.opening)
  pub stands : (c : Files) → Image v c → Stands s.hard s.opening (c g.file)
  -- its bytes
  pub gate : ℕ
  pub tail : List ℕ
  pub shut : gate ≢ 1
  pub text : files g.file ≡ text s gate tail
  pub images : (c : Files) → Image v c → IsImage s gate tail g.synced (c g.file)
  pub hard : AllByRecursion IsBody s.hard
  pub opening : AllByRecursion IsBody s.opening
  pub closed : AllByRecursion IsBody s.closed
  pub end : g.end ≡ place s + length (spelled 1 s.closed)
  pub places : g.closed.items ≡ places (place s) s.closed

-- The disk tells its files, and this one has this state.
abbrev pub HasState : View → Gated → State → Type 0
HasState v g s = IsSomeAnd v.content (Holds v g s)

-- The file is open for calls: it has some state, where the disk tells it, and there is the room that `reserve` made,
-- on the disk, in the Gated, and below the greatest place.
pub record IsReady (v : View) (g : Gated) : Type 0 where
  pub state : IfSome v.content (λ files. (s : State) × Holds v g s files)
  pub room : v.has_room g.file (2 * g.bodies_left + length g.closed.items + g.syncs_left) (g.bytes_left + 6 * g.bodies_left + length g.closed.items)
  pub gates : length g.closed.items + g.bodies_left ≤ deque_capacity g.closed
  pub buffer : min g.bytes_left LONGEST_BODY + 5 ≤ vec_capacity g.buffer
  pub places : g.end + g.bytes_left + 5 * g.bodies_left < 2 ^ 64

-- the same room is left for bodies, their bytes and syncs
pub record HasSameRoom (old new : Gated) : Type 0 where
  pub bodies : new.bodies_left ≡ old.bodies_left
  pub bytes : new.bytes_left ≡ old.bytes_left
  pub syncs : new.syncs_left ≡ old.syncs_left

-- a file whose last closed gate stands there, all of it on the disk, with no room for more
pub record IsStanding (g : Gated) (number place : ℕ) : Type 0 where
  pub file : g.file ≡ number
  pub end : g.end ≡ place
  pub closed : g.closed.items ≡ []
  pub bodies : g.bodies_left ≡ 0
  pub bytes : g.bytes_left ≡ 0
  pub syncs : g.syncs_left ≡ 0
  pub buffer : 5 ≤ vec_capacity g.buffer
  pub synced : g.synced ≡ true

-- What may come to a secondary, in which order, and what each frame has to fit. (GT.M: the handshake of a Source Server with a Receiver
-- Server, and what is shipped behind it; the rules are this project's.)
use Rattle.std.specs.Prelude.{◌≡◌, ◌⊎◌, ℕ, ◌+◌, ◌<◌, ◌≤◌, ◌==◌, Bool, List, [], ◌∷◌, fold, take, length, Option, Some, None, if◌then◌else◌}
use Rattle.std.specs.List.{last_or}
use Rattle.std.specs.FinMap as map
use Rattle.global_defs.specs.declared.limits.TheConstants.{MOST_NODES, MOST_REIGNS}
use Rattle.global_defs.specs.Entry.{Update, Transaction, Reign, Globals, apply}
use Rattle.global_defs.specs.Prefix as prefix
use Rattle.lineage_defs.specs.Histories.{told}
use Rattle.wire_defs.specs.Frames.{Frame, Hello, Resume, RollbackFirst, History, Entry, Bye}
use Rattle.ship_defs.specs.Directions as direction

-- what a connection is for
pub data Purpose : Type 0 where
  -- START and FETCHRESYNC, where the primary's answer is its last frame
  Asks : Purpose
  -- a section
  Ships : Purpose

-- which frame came last
pub data Last : Type 0 where
  Unbegun : Last
  Resumed : Last
  -- a HISTORY whose first ENTRY hasn't come
  Reigning : Reign → Last
  Shipped : Last
  -- the direction's last frame
  Over : Last

-- what a secondary has, with all that it was sent
pub record Heard : Type 0 where
  pub count : ℕ  -- how many entries
  pub reigns : ℕ  -- how many reigns that have begun by then
  pub reign : Option Reign  -- the last of these
  pub last : Last

-- a secondary with that history, before its connection's first byte
abbrev pub unbegun : prefix.History → Heard
unbegun h = record { count = h.length; reigns = length (told h).reigns; reign = last_or None (told h).reigns; last = Unbegun }

abbrev pub IsUnbegun : Last → Type 0
IsUnbegun Unbegun = Unit {0}
IsUnbegun Resumed = ⊥
IsUnbegun (Reigning r) = ⊥
IsUnbegun Shipped = ⊥
IsUnbegun Over = ⊥

-- a HISTORY or a BYE may come: behind RESUME, and behind an ENTRY
abbrev pub IsBetween : Last → Type 0
IsBetween Unbegun = ⊥
IsBetween Resumed = Unit {0}
IsBetween (Reigning r) = ⊥
IsBetween Shipped = Unit {0}
IsBetween Over = ⊥

-- an ENTRY may come: behind a HISTORY, and behind an ENTRY
abbrev pub IsUnder : Last → Type 0
IsUnder Unbegun = ⊥
IsUnder Resumed = ⊥
IsUnder (Reigning r) = Unit {0}
IsUnder Shipped = Unit {0}
IsUnder Over = ⊥

abbrev pub IsOver : Last → Type 0
IsOver Unbegun = ⊥
IsOver Resumed = ⊥
IsOver (Reigning r) = ⊥
IsOver Shipped = ⊥
IsOver Over = Unit {0}

-- what RESUME is to a connection
abbrev pub behind_resume : Purpose → Last
behind_resume Asks = Over
behind_resume Ships = Resumed

-- the reign begins with the next entry and isn't one too many, or it is the last one as it stands
abbrev pub MayReign : Heard → Reign → Type 0
MayReign h r = ((r.start ≡ h.count + 1) × (h.reigns < MOST_REIGNS)) ⊎ (h.reign ≡ Some r)

-- with the next entry, and no reign that begins there
abbrev pub with_entry : Heard → Heard
with_entry h = record { count = h.count + 1; reigns = h.reigns; reign = h.reign; last = Shipped }

-- with the next entry and its reign
abbrev pub with_reign : Heard → Reign → Heard
with_reign h r = record { count = h.count + 1; reigns = h.reigns + 1; reign = Some r; last = Shipped }

-- with the next entry: the reign of a HISTORY right before it is one more where it begins there
abbrev pub entered : Heard → Last → Heard
entered h (Reigning r) = if r.start == h.count + 1 then with_reign h r else with_entry h
entered h Unbegun = with_entry h
entered h Resumed = with_entry h
entered h Shipped = with_entry h
entered h Over = with_entry h

-- The frame fits the order and its rule, but for the nodes, and this has come with it. A Receiver Server can tell that much.
abbrev pub Fits : Purpose → Heard → Frame → Heard → Type 0
Fits p h (Hello version name history) now = ⊥
Fits p h (Resume n) now = IsUnbegun h.last × (n ≡ h.count + 1) × (now ≡ record h { last = behind_resume p })
Fits p h (RollbackFirst n) now = IsUnbegun h.last × (1 ≤ n) × (n ≤ h.count) × (now ≡ record h { last = Over })
Fits p h (History r) now = IsBetween h.last × MayReign h r × (now ≡ record h { last = Reigning r })
Fits p h (Entry n t) now = IsUnder h.last × (n ≡ h.count + 1) × (now ≡ entered h h.last)
Fits p h (Bye n) now = IsBetween h.last × (n ≡ h.count) × (now ≡ record h { last = Over })

-- after each of these updates there are no more nodes than there may be
abbrev pub HasRoom : Globals → List Update → Type 0
HasRoom g updates = (k : ℕ) → 1 ≤ k → map.len (fold apply g (take k updates)) ≤ MOST_NODES

-- there is room for transactions, one after another
abbrev pub HasRooms : Globals → List Transaction → Type 0
HasRooms g [] = Unit {0}
HasRooms g (t ∷ ts) = HasRoom g t.updates × HasRooms (fold apply g t.updates) ts

-- An Update Process tells the rest.
abbrev pub HasPlace : Globals → Frame → Type 0
HasPlace g (Entry n t) = HasRoom g t.updates
HasPlace g (Hello version name history) = Unit {0}
HasPlace g (Resume n) = Unit {0}
HasPlace g (RollbackFirst n) = Unit {0}
HasPlace g (History r) = Unit {0}
HasPlace g (Bye n) = Unit {0}

-- the globals with an entry's updates
abbrev pub with_updates : Globals → Frame → Globals
with_updates g (Entry n t) = fold apply g t.updates
with_updates g (Hello version name history) = g
with_updates g (Resume n) = g
with_updates g (RollbackFirst n) = g
with_updates g (History r) = g
with_updates g (Bye n) = g

-- what a secondary has, and its globals then
pub record Hearing : Type 0 where
  pub heard : Heard
  pub globals : Globals

-- the frame is admissible
abbrev pub Admits : Purpose → Hearing → Frame → Hearing → Type 0
Admits p h f now = Fits p h.heard f now.heard × HasPlace h.globals f × (now.globals ≡ with_updates h.globals f)

-- the last frame has come
abbrev pub IsHeardOut : Hearing → Type 0
IsHeardOut h = IsOver h.heard.last

-- BADFRAME at a secondary: at this offset the bytes received have no admissible frame. An end where its primary's disk failed, or gave a
-- NOTAFILE, isn't counted as one.
abbrev pub IsBadFromPrimary : Purpose → Hearing → (bytes : List ℕ) → (ended : Bool) → (offset : ℕ) → Type 0
IsBadFromPrimary p h bytes ended offset = direction.IsBadAt (Admits p) IsHeardOut h bytes ended offset

-- the bytes received are admissible frames, of which this is the last
abbrev pub EndsFromPrimary : Purpose → Hearing → (bytes : List ℕ) → Frame → Type 0
EndsFromPrimary p h bytes last = direction.EndsWith (Admits p) IsHeardOut h bytes last

-- The same as far as a Receiver Server can tell, which doesn't know the nodes.
abbrev pub HasUnfit : Purpose → Heard → (bytes : List ℕ) → (ended : Bool) → (offset : ℕ) → Type 0
HasUnfit p h bytes ended offset = direction.IsBadAt (Fits p) (λ x. IsOver x.last) h bytes ended offset

-- What may come to a primary, and what it answers. (GT.M: the handshake of a Source Server with a Receiver Server, by the resync sequence number.)
use Rattle.std.specs.Prelude.{◌≡◌, ℕ, ◌+◌, ◌<◌, ◌≤◌, Bool, true, false, IsTrue, List, length, take}
use Rattle.std.specs.List.{AllByRecursion}
use Rattle.global_defs.specs.declared.limits.TheConstants.{MOST_REIGNS}
use Rattle.global_defs.specs.Prefix as prefix
use Rattle.global_defs.specs.Rising.{StartsRise}
use Rattle.lineage_defs.specs.Histories.{IsCommonOf, told}
use Rattle.wire_defs.specs.Frames.{Frame, Hello, Resume, RollbackFirst, History, Entry, Bye}
use Rattle.ship_defs.specs.Directions as direction

-- a HELLO that a primary admits: starts rise up to the length, and there are no more reigns than there may be
abbrev pub IsHello : Frame → Type 0
IsHello (Hello version name history) = StartsRise 0 history.reigns × AllByRecursion (λ r. r.start ≤ history.length) history.reigns × (length history.reigns ≤ MOST_REIGNS)
IsHello (Resume n) = ⊥
IsHello (RollbackFirst n) = ⊥
IsHello (History r) = ⊥
IsHello (Entry n t) = ⊥
IsHello (Bye n) = ⊥

-- The HELLO is the one frame.
abbrev pub Greets : (greeted : Bool) → Frame → (now : Bool) → Type 0
Greets greeted f now = (greeted ≡ false) × IsHello f × (now ≡ true)

-- BADFRAME at a primary: at this offset the bytes received have no admissible frame.
abbrev pub IsBadToPrimary : (bytes : List ℕ) → (ended : Bool) → (offset : ℕ) → Type 0
IsBadToPrimary bytes ended offset = direction.IsBadAt Greets IsTrue false bytes ended offset

-- the bytes received are this HELLO
abbrev pub GreetsWith : (bytes : List ℕ) → Frame → Type 0
GreetsWith bytes hello = direction.EndsWith Greets IsTrue false bytes hello

-- what a HELLO tells of a history: the reigns that have begun by its length, or one more than there may be of them
abbrev pub carried : prefix.History → prefix.History
carried h = record { length = h.length; reigns = take (MOST_REIGNS + 1) (told h).reigns }

-- the HELLO of a secondary
abbrev pub greeting : (name : List ℕ) → prefix.History → Frame
greeting name h = Hello 1 name (carried h)

-- The primary's answer: the entries follow where the secondary's are its own, and else those past what both share have to be rolled back.
abbrev pub IsAnswer : (theirs mine : prefix.History) → Frame → Type 0
IsAnswer theirs mine (Resume n) = IsCommonOf mine.length theirs mine × (n ≡ mine.length + 1)
IsAnswer theirs mine (RollbackFirst n) = (t : ℕ) × IsCommonOf t theirs mine × (t < mine.length) × (n ≡ t + 1)
IsAnswer theirs mine (Hello version name history) = ⊥
IsAnswer theirs mine (History r) = ⊥
IsAnswer theirs mine (Entry n t) = ⊥
IsAnswer theirs mine (Bye n) = ⊥

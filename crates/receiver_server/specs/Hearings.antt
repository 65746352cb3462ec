-- What a Receiver Server knows of its secondary.
use Rattle.std.specs.Prelude.{◌≡◌, ◌+◌, ◌<◌, ◌≤◌, ◌^◌, Option, Some, None}
use Rattle.global_defs.specs.declared.limits.TheConstants.{NUMBERS_END}
use Rattle.global_defs.specs.Entry as defs
use Rattle.global_defs.specs.Fields.{IsReign}
use Rattle.gvn_model.specs.Reigns.{reign_value}
use Rattle.wire_defs.specs.Frames.{Frame, Hello, Resume, RollbackFirst, History, Entry, Bye}
use Rattle.ship_defs.specs.Hearing as ship
use Rattle.ship_defs.specs.Hearing.{MayReign, behind_resume, entered}
use Rattle.receiver_server.specs.declared.hearer.Last.{Last}
use Rattle.receiver_server.specs.declared.hearer.Last.TheVariants.{Unbegun, Resumed, Reigning, Shipped, Over}
use Rattle.receiver_server.specs.declared.hearer.Purpose.{Purpose}
use Rattle.receiver_server.specs.declared.hearer.Purpose.TheVariants.{Asks, Ships}

abbrev pub purpose_value : Purpose → ship.Purpose
purpose_value Asks = ship.Asks
purpose_value Ships = ship.Ships

abbrev pub last_value : Last → ship.Last
last_value Unbegun = ship.Unbegun
last_value Resumed = ship.Resumed
last_value (Reigning r) = ship.Reigning (reign_value r)
last_value Shipped = ship.Shipped
last_value Over = ship.Over

-- the reign of a HISTORY that came last
abbrev pub reign_behind : ship.Last → Option defs.Reign
reign_behind ship.Unbegun = None
reign_behind ship.Resumed = None
reign_behind (ship.Reigning r) = Some r
reign_behind ship.Shipped = None
reign_behind ship.Over = None

-- the frame may come next, but for its nodes
abbrev pub MayCome : ship.Heard → Frame → Type 0
MayCome h (Hello version name history) = ⊥
MayCome h (Resume n) = ship.IsUnbegun h.last × (n ≡ h.count + 1)
MayCome h (RollbackFirst n) = ship.IsUnbegun h.last × (n ≤ h.count)
MayCome h (History r) = ship.IsBetween h.last × MayReign h r
MayCome h (Entry n t) = ship.IsUnder h.last × (n ≡ h.count + 1)
MayCome h (Bye n) = ship.IsBetween h.last × (n ≡ h.count)

-- what a secondary has once the frame has come
abbrev pub behind : ship.Purpose → ship.Heard → Frame → ship.Heard
behind p h (Hello version name history) = h
behind p h (Resume n) = record h { last = behind_resume p }
behind p h (RollbackFirst n) = record h { last = ship.Over }
behind p h (History r) = record h { last = ship.Reigning r }
behind p h (Entry n t) = entered h h.last
behind p h (Bye n) = record h { last = ship.Over }

-- The reign of a HISTORY that came last was admissible, and behind an ENTRY there is an entry.
abbrev pub IsLast : ship.Heard → ship.Last → Type 0
IsLast h ship.Unbegun = Unit {0}
IsLast h ship.Resumed = Unit {0}
IsLast h (ship.Reigning r) = IsReign r × MayReign h r
IsLast h ship.Shipped = 1 ≤ h.count
IsLast h ship.Over = Unit {0}

-- What holds on a connection of a secondary with a history of its form: its last reign has begun.
pub record IsHeard (h : ship.Heard) : Type 0 where
  pub few : h.count < NUMBERS_END
  pub reign : (r : defs.Reign) → h.reign ≡ Some r → IsReign r × (r.start ≤ h.count)
  pub last : IsLast h h.last

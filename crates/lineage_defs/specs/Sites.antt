-- Sites while entries are made, shipped and rolled back, as plain data (GT.M: instances, what of their journals is durable, and the
-- connections between them).
use Rattle.std.specs.Prelude.{ℕ, List, [], take}
use Rattle.global_defs.specs.Entry.{Stamp, Sequence, Reign}
use Rattle.global_defs.specs.Prefix.{History}

-- What a site does. A session is part of its follower's role: what the primary has sent it and what it has received, from number 1.
pub data Role : Type 0 where
  Down : Role
  -- its reign, and the next serials of the 64 updaters, updater u at place u - 1
  Primary : Stamp → (serials : List ℕ) → Role
  Following : (primary : List ℕ) → (sent received : Sequence) → Role
  -- its primary was rolled back since
  Waiting : (primary : List ℕ) → Role

-- a site: what its files stand for, and what it does
pub record Site : Type 0 where
  pub name : List ℕ
  -- a primary's is what it has appended
  pub sequence : Sequence
  -- how many of its entries every image of its files has
  pub hardened : ℕ
  -- its surviving reigns, in the order of their records
  pub reigns : List Reign
  -- the greatest cycle of a reign that its instance file has, dropped ones among them, or 0
  pub cycle : ℕ
  pub role : Role

-- the sites, each at its place
abbrev pub World : Type 0
World = List Site

-- what every image of its files has
abbrev pub hardened_part : Site → Sequence
hardened_part s = take s.hardened s.sequence

-- the history of a site's first n entries
abbrev pub history : ℕ → Site → History
history n s = record { length = n; reigns = s.reigns }

-- a site that was made, without entries
abbrev pub fresh : List ℕ → Site
fresh name = record { name = name; sequence = []; hardened = 0; reigns = []; cycle = 0; role = Down }

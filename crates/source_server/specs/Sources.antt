-- What contracts see of a Source Server.
use Rattle.std.specs.Prelude.{◌≡◌, ◌⊎◌, ℕ, ◌+◌, ◌-◌, ◌<◌, ◌≤◌, ◌==◌, Bool, true, false, List, [], ◌∷◌, ◌++◌, length, drop, take}
use Rattle.std.specs.List.{AllByRecursion}
use Rattle.global_defs.specs.declared.limits.TheConstants.{NUMBERS_END}
use Rattle.global_defs.specs.Entry.{Reign}
use Rattle.global_defs.specs.Fields.{IsReign}
use Rattle.global_defs.specs.Rising.{StartsRise}
use Rattle.wire_defs.specs.Frames.{Bye, spelled_frame, stream}
use Rattle.ship_defs.specs.Shipping.{reign_at, announced, entry_frame, resumed_bytes}

-- what it ships by, and how far it has come
pub record Shipping : Type 0 where
  pub reigns : List Reign  -- the primary's
  pub next : ℕ  -- the number of the next entry that it takes
  pub first : Bool  -- whether that is the connection's first
  pub ended : Bool  -- whether BYE was made
  pub pending : List ℕ  -- what was made and isn't sent yet

-- behind the RESUME from that number
abbrev pub resumed_at : List Reign → (from : ℕ) → Shipping
resumed_at reigns from = record { reigns = reigns; next = from; first = true; ended = false; pending = [] }

-- What was made of the next entry, of these bytes: a HISTORY where it is the connection's first or its reign's, and its ENTRY.
abbrev pub made_of : Shipping → (entry : List ℕ) → List ℕ
made_of s entry = stream (announced s.first s.next (reign_at s.next s.reigns)) ++ entry_frame entry

-- no entry was taken, and nothing was made
pub record HasSent (a b : Shipping) (sent now : List ℕ) : Type 0 where
  pub bytes : now ++ b.pending ≡ sent ++ a.pending
  pub after : b ≡ record a { pending = b.pending }

-- the next entry, of these bytes, was taken
pub record HasTaken (entry : List ℕ) (a b : Shipping) (sent now : List ℕ) : Type 0 where
  pub goes_on : a.ended ≡ false
  pub bytes : now ++ b.pending ≡ (sent ++ a.pending) ++ made_of a entry
  pub after : b ≡ record a { next = a.next + 1; first = false; pending = b.pending }

-- one of both; `Is` tells the bytes of entries by their numbers
abbrev pub Goes : (Is : ℕ → List ℕ → Type 0) → (a b : Shipping) → (sent now : List ℕ) → Type 0
Goes Is a b sent now = HasSent a b sent now ⊎ ((entry : List ℕ) × Is a.next entry × HasTaken entry a b sent now)

-- entries of numbers from n on
abbrev pub AllFrom : (Is : ℕ → List ℕ → Type 0) → ℕ → List (List ℕ) → Type 0
AllFrom Is n [] = Unit {0}
AllFrom Is n (entry ∷ entries) = Is n entry × AllFrom Is (n + 1) entries

-- a BYE, where it was made
abbrev pub bye_if : (ended : Bool) → ℕ → List ℕ
bye_if true n = spelled_frame (Bye n)
bye_if false n = []

-- What it has sent and made on its connection is a RESUME, the frames of these entries from that number on, and BYE where it has ended.
pub record HasShipped (s : Shipping) (sent : List ℕ) (from : ℕ) (entries : List (List ℕ)) : Type 0 where
  pub next : s.next ≡ from + length entries
  pub first : s.first ≡ (length entries == 0)
  pub bytes : sent ++ s.pending ≡ resumed_bytes s.reigns from entries ++ bye_if s.ended (s.next - 1)

-- something can be sent, or an entry that a source is ready to give can be taken
abbrev pub CanShip : (Ready : ℕ → Type 0) → Shipping → Type 0
CanShip Ready s = (0 < length s.pending) ⊎ ((s.ended ≡ false) × (s.next < NUMBERS_END) × Ready s.next)

-- What a Source Server keeps of its fields. The first `begun` reigns begin below the next number, and the others, in order, no earlier than it.
pub record IsSound (reigns : List Reign) (begun next at : ℕ) (made : List ℕ) : Type 0 where
  pub form : AllByRecursion IsReign reigns
  pub least : 1 ≤ next
  pub most : next ≤ NUMBERS_END
  pub inside : at ≤ length made
  pub within : begun ≤ length reigns
  pub earlier : AllByRecursion (λ r. r.start < next) (take begun reigns)
  pub later : StartsRise (next - 1) (drop begun reigns)

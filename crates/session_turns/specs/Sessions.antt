-- What contracts see of a session's connection, from a primary's entries to a secondary's site.
use Rattle.std.specs.Prelude.{◌≡◌, ℕ, ◌+◌, ◌<◌, ◌≤◌, ◌^◌, true, List, [], ◌∷◌}
use Rattle.global_defs.specs.declared.limits.TheConstants.{NUMBERS_END}
use Rattle.global_defs.specs.Entry.{Transaction}
use Rattle.wire_defs.specs.Frames.{entry_bytes}
use Rattle.source_server.specs.Sources.{Shipping, AllFrom, HasShipped}

-- What a primary has sent and made over a connection: a RESUME from that number, the frames of these entries from there on, and, behind the
-- last of so many, BYE.
pub record HasMade (from length : ℕ) (s : Shipping) (sent : List ℕ) (entries : List (List ℕ)) : Type 0 where
  pub shipped : HasShipped s sent from entries
  pub last : s.ended ≡ true → s.next ≡ length + 1

-- the same of some entries of a source, which tells the bytes of entries by their numbers
pub record HasGiven (Is : ℕ → List ℕ → Type 0) (from length : ℕ) (s : Shipping) (sent : List ℕ) : Type 0 where
  pub entries : List (List ℕ)
  pub given : AllFrom Is from entries
  pub made : HasMade from length s sent entries

-- the bytes are those of the first of these entries, from that number on
abbrev pub AreFirst : ℕ → List (List ℕ) → List Transaction → Type 0
AreFirst n [] ts = Unit {0}
AreFirst n (e ∷ es) [] = ⊥
AreFirst n (e ∷ es) (t ∷ ts) = (e ≡ entry_bytes n t) × AreFirst (n + 1) es ts

-- so many entries may be taken, of which a source is ready to give each that is still to come
pub record CanGive (Ready : ℕ → Type 0) (most : ℕ) (s : Shipping) : Type 0 where
  pub few : most < NUMBERS_END
  pub within : s.next ≤ most + 1
  pub ready : (n : ℕ) → s.next ≤ n → n ≤ most → Ready n

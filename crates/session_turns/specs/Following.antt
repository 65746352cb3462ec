-- What a secondary's site is with the entries that came to it over a connection.
use Rattle.std.specs.Prelude.{◌≡◌, ◌⊎◌, ℕ, ◌+◌, ◌≤◌, ◌==◌, List, [], ◌∷◌, ◌++◌, length, Option, Some, None, if◌then◌else◌}
use Rattle.std.specs.List.{AllByRecursion}
use Rattle.global_defs.specs.Entry.{Reign}
use Rattle.wire_defs.specs.Frames.{Frame}
use Rattle.ship_defs.specs.Directions.{Admitted}
use Rattle.ship_defs.specs.Hearing.{Purpose, Heard, Fits, unbegun}
use Rattle.ship_defs.specs.Arrivals.{Arrival, arrivals}
use Rattle.update_process.specs.Copies.{Copy, history_of, next_of, MayAdopt, told, Takes}
use Rattle.update_process.specs.Updates.{Follows, IsTooLarge}
use Rattle.update_process.specs.declared.update.UpdateError.{UpdateError}
use Rattle.update_process.specs.declared.update.UpdateError.TheVariants.{BadFrame, Site}

-- the arrivals were applied, one after another
abbrev pub Followed : Copy → List Arrival → Copy → Type 0
Followed c [] now = now ≡ c
Followed c (x ∷ xs) now = (m : Copy) × Follows x c m × Followed m xs now

-- the reign of a HISTORY right before the entry of that number, where it begins there
abbrev pub new_reign : (n : ℕ) → Option Reign → List Reign
new_reign n None = []
new_reign n (Some r) = if r.start == n then r ∷ [] else []

-- the reigns that begin with such arrivals, of which the first is the entry of that number
abbrev pub gained : (n : ℕ) → List Arrival → List Reign
gained n [] = []
gained n (x ∷ xs) = new_reign n x.reign ++ gained (n + 1) xs

-- all its surviving reigns have begun
abbrev pub IsFitCopy : Copy → Type 0
IsFitCopy c = AllByRecursion (λ r. r.start ≤ length c.sequence) c.reigns

-- the first of these is the site's next entry, under a reign that the site may adopt
abbrev pub InTurn : Copy → List Arrival → Type 0
InTurn c [] = Unit {0}
InTurn c (x ∷ xs) = (x.number ≡ next_of c) × ((r : Reign) → x.reign ≡ Some r → MayAdopt (history_of c) r)

-- what came over a connection that began with that site fits it
pub record HasFit (begun : Copy) (put : List Arrival) : Type 0 where
  pub fit : IsFitCopy begun
  pub purpose : Purpose
  pub frames : List Frame
  pub now : Heard
  pub admitted : Admitted (Fits purpose) (unbegun (history_of begun)) frames now
  pub arrive : put ≡ arrivals 0 None frames

-- all entries that were taken were applied, and one more was put at most
pub record Awaits (begun : Copy) (put taken : List Arrival) (c : Copy) : Type 0 where
  pub has_fit : HasFit begun put
  pub left : List Arrival
  pub is : put ≡ taken ++ left
  pub most : length left ≤ 1
  pub follows : Followed begun taken c

module _ {E : Type 0} where
  -- The site's next entry wasn't applied: there is no room for its nodes, or the site failed with the entry or without it.
  abbrev pub Halts : UpdateError E → Arrival → (c now : Copy) → Type 0
  Halts (BadFrame offset) x c now = (x.at ≡ offset) × IsTooLarge x c × (now ≡ told c x.reign)
  Halts (Site e) x c now = (now ≡ c) ⊎ ((now ≡ told c x.reign) ⊎ Takes x.transaction (told c x.reign) now)

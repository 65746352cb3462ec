-- What a command with its answers does, and the text that it writes.
use Rattle.std.specs.Prelude.{◌≡◌, ◌⊎◌, ℕ, ◌≤◌, Bool, true, false, List, [], ◌∷◌, ◌++◌, Option, Some}
use Rattle.global_defs.specs.Beside.{Along, At}
use Rattle.command_defs.specs.Commands.{Command}
use Rattle.site_defs.specs.Lists.{Among}
use Rattle.site_defs.specs.Contents.{Contents, Standing}
use Rattle.world_defs.specs.World.{Place, World, IfKnown, StandAfter, Unchanged}
use Rattle.world_defs.specs.Answers.{Refusal, Answer, Done, Refused, DiskFault, NotAFile, Ran, Typed, refusal_line}
use Rattle.world_defs.specs.Changes.{After}
use Rattle.world_defs.specs.Row.{Row, refusal_in, Here}
use Rattle.world_defs.specs.Meaning.{Others, Meaning, No, Acts, Then}
use Rattle.world_defs.specs.rows.{meaning}

-- One answer of a row at a place: what the place becomes, what each other one does, and the text.
pub record One (i : ℕ) (row : Row) (others : Others) (a : Answer) (w m : World) (t : List ℕ) : Type 0 where
  pub becomes : Place
  pub here : Here row a becomes t
  pub around : At i (λ old new. new ≡ becomes) (others a) w.places m.places

abbrev pub is_done : Answer → Bool
is_done Done = true
is_done (Refused r) = false
is_done (DiskFault k) = false
is_done (NotAFile file offset) = false
is_done (Ran s) = false
is_done (Typed text) = false

-- more where it was done, nothing otherwise
abbrev pub Further : Bool → Type 0 → Type 0 → Type 0
Further true more ends = more
Further false more ends = ends

abbrev pub Goes : Meaning → List Answer → World → World → List ℕ → Type 0
Goes (No r) answers w m t = (answers ≡ Refused r ∷ []) × Unchanged w m × (t ≡ refusal_line r)
Goes (Acts i row others) answers w m t = (a : Answer) × (answers ≡ a ∷ []) × One i row others a w m t
Goes (Then i row others next) answers w m t = (a : Answer) × (u : World) × (s : List ℕ) × One i row others a w u s
    × Further (is_done a) ((rest : List Answer) × (r : List ℕ) × (answers ≡ a ∷ rest) × (t ≡ s ++ r) × Goes (next u) rest u m r)
    ((answers ≡ a ∷ []) × (m ≡ u) × (t ≡ s))

-- A command with what it answered, and its text.
abbrev pub Step : World → Command → List Answer → World → List ℕ → Type 0
Step w c answers m t = Goes (meaning w c) answers w m t

-- At a place, once a command was cut off: each outcome is an old one, or one after a step. As much is known of what lies behind as before: each standing is an old one, or one after a step of
-- its own.
pub record LeftBy (step : Contents → Contents → Type 0) (so : Standing → Standing → Type 0) (old new : Place) : Type 0 where
  pub told : new.told ≡ old.told
  pub outcomes : IfKnown old ((o : Contents) → Among new.outcomes o → Among old.outcomes o ⊎ After step old.outcomes o)
  pub standings : IfKnown old (StandAfter (λ s o. (o ≡ s) ⊎ so s o) old.standings new.standings)
  pub faults : old.faults ≤ new.faults
  pub simulated : new.simulated ≡ old.simulated

-- by that row
abbrev pub LeftByRow : Row → Place → Place → Type 0
LeftByRow row old new = LeftBy row.left row.left_so old new

-- each outcome is an old one, and so is each standing
abbrev pub LeavesOld : Place → Place → Type 0
LeavesOld old new = LeftBy (λ c o. ⊥) (λ s o. ⊥) old new

abbrev pub IsCut : Meaning → World → World → Type 0
IsCut (No r) w m = Along (λ i. LeavesOld) w.places m.places
IsCut (Acts i row others) w m = At i (LeftByRow row) (λ j. LeavesOld) w.places m.places
IsCut (Then i row others next) w m = At i (LeftByRow row) (λ j. LeavesOld) w.places m.places
    ⊎ ((a : Answer) × (u : World) × (s : List ℕ) × One i row others a w u s × IsCut (next u) u m)

-- A command that was cut off for want of memory leaves old outcomes and standings, and at its own place those that a fault there might have left.
abbrev pub CutOff : World → Command → World → Type 0
CutOff w c m = IsCut (meaning w c) w m

abbrev pub refusal_of : Meaning → Option Refusal
refusal_of (No r) = Some r
refusal_of (Acts i row others) = refusal_in row
refusal_of (Then i row others next) = refusal_in row

-- why it is refused, where it is
abbrev pub refusal : World → Command → Option Refusal
refusal w c = refusal_of (meaning w c)

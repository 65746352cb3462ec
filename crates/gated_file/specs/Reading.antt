-- Reading a gated file from a place on.
use Rattle.std.specs.Prelude.{◌≡◌, ◌≤◌, ◌<◌, ℕ, ◌+◌, List, ◌++◌, [], ◌∷◌, length, take, drop, Option, Some, None}
use Rattle.std.specs.Int.{to_be_bytes, w32}
use Rattle.global_defs.specs.declared.limits.TheConstants.{LONGEST_BODY}
use Rattle.disk_defs.specs.Gates.{Body, Open, Shut, gate_at}
use Rattle.disk_defs.specs.OutsideGates.{LeadsTo}

-- An open gate with its body, which is added to what was there, and the next gate's place; or a closed gate.
abbrev pub Finds : List ℕ → ℕ → Option ℕ → List ℕ → List ℕ → Type 0
Finds file at None old new = (gate_at file at ≡ Shut) × (new ≡ old)
Finds file at (Some next) old new = (body : Body) × (gate_at file at ≡ Open body (drop next file)) × (next ≡ at + 5 + length body) × (new ≡ old ++ body)

-- an open gate, and behind its length a body of that length
pub record HasBody (file : List ℕ) (at n : ℕ) : Type 0 where
  pub gate : take 1 (drop at file) ≡ 1 ∷ []
  pub head : take 4 (drop (at + 1) file) ≡ to_be_bytes w32 n
  pub not_empty : 1 ≤ n
  pub not_long : n ≤ LONGEST_BODY
  pub inside : at + n + 6 ≤ length file

-- a body of this length behind an open gate, or a closed gate
abbrev pub BodyAt : List ℕ → ℕ → Option ℕ → Type 0
BodyAt file at None = (gate_at file at ≡ Shut) × (at < length file)
BodyAt file at (Some n) = HasBody file at n

-- Open records with these bodies stand from the start to a closed gate at this place.
pub record EndsAt (file : List ℕ) (bodies : List Body) (end : ℕ) : Type 0 where
  pub leads : LeadsTo file end bodies
  pub shut : gate_at file end ≡ Shut

-- What a section makes of them.
use Rattle.std.specs.Prelude.{◌≡◌, ℕ, ◌≤◌, List, length, take}
use Rattle.global_defs.specs.Entry.{Stamp, Sequence}
use Rattle.global_defs.specs.Jobs.{Job}
use Rattle.global_defs.specs.Serial.{Turn, serial, begun}
use Rattle.site_defs.specs.Contents.{Contents}

-- how far the jobs of a section have come at a primary, once these picks are decided
abbrev pub turn_of : Stamp → List ℕ → List (List Job) → List ℕ → Sequence → Turn
turn_of stamp serials jobs picks seq = serial stamp picks (begun serials jobs seq)

abbrev pub with_sequence : Contents → Sequence → Contents
with_sequence c seq = record c { sequence = seq }

-- a front of this sequence with at least so many entries
pub record IsFrontOf (all : Sequence) (low : ℕ) (c o : Contents) : Type 0 where
  pub count : ℕ
  pub least : low ≤ count
  pub most : count ≤ length all
  pub is : o ≡ with_sequence c (take count all)

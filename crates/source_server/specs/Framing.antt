-- The frames before an ENTRY.
use Rattle.std.specs.Prelude.{List, [], ◌∷◌, Option, Some, None}
use Rattle.global_defs.specs.Entry.{Reign}
use Rattle.wire_defs.specs.Frames.{Frame, History}

-- the HISTORY of a reign, where there is one
abbrev pub histories : Option Reign → List Frame
histories None = []
histories (Some r) = History r ∷ []

-- Taking back that nodes were set.
use Rattle.std.specs.Prelude.{◌≡◌, ℕ, true, List, [], ◌∷◌, Option, Some, None}
use Rattle.std.specs.FinMap as globals
use Rattle.global_defs.specs.Key.{Key}
use Rattle.global_defs.specs.Entry.{Globals}
use Rattle.gvn_globals.specs.declared.globals.Undo.{Undo}
use Rattle.gvn_globals.specs.declared.globals.Undo.TheVariants.{Put, Remove}

-- what takes back that a node was set, by the value that it had
abbrev pub undo_of : Key → Option (List ℕ) → Undo
undo_of key None = Remove key
undo_of key (Some value) = Put (key, value)

abbrev pub restored : Globals → Undo → Globals
restored g (Put e) = globals.insert g e.0 e.1
restored g (Remove key) = globals.remove g key

-- one after another, the last first
abbrev pub undone : Globals → List Undo → Globals
undone g [] = g
undone g (u ∷ us) = undone (restored g u) us

-- a node that gets its value back has one, so that this takes no memory
abbrev pub IsHeld : Globals → Undo → Type 0
IsHeld g (Put e) = globals.contains_key g e.0 ≡ true
IsHeld g (Remove key) = Unit {0}

abbrev pub CanUndo : Globals → List Undo → Type 0
CanUndo g [] = Unit {0}
CanUndo g (u ∷ us) = IsHeld g u × CanUndo (restored g u) us

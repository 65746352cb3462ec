use Rattle.std.proofs.Common.{ℕ, List, Vec, Global, map}
use Rattle.journal_defs.specs.Sequence.{Placed}
use Rattle.entry_index.specs.declared.placed.PlacedSign.{PlacedSign}
use Rattle.region_opening.specs.Signs.{AllTell}
use Rattle.region_opening.specs.Forward.{NoneNeeds}
use Rattle.region_opening.proofs.needing.first_without_images.Given as goal

abbrev pub invariant-loop-number : goal.invariant-loop-number
invariant-loop-number l = (journal : ℕ → List Placed) → AllTell (map (λ (s : Vec PlacedSign Global). s.items) l.signs) journal → NoneNeeds l.instance l.target journal l.number

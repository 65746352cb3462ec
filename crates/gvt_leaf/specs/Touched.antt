-- Leaves of a chain that a change is about to change.
use Rattle.std.specs.Prelude.{◌≤◌, ◌<◌, List, length}
use Rattle.journal_defs.specs.Leaves.{Cell}
use Rattle.gvt_leaf.specs.Chained.{leaf_cells}
use Rattle.gvt_leaf.specs.declared.touched.Span.{Span}
use Rattle.gvt_leaf.specs.declared.touched.Seat.{Seat}

-- the span is of leaves of the chain
pub record IsInside (leaves : List (List Cell)) (s : Span) : Type 0 where
  pub order : s.from ≤ s.to
  pub inside : s.to ≤ length leaves

-- a cell stands there
pub record StandsInside (leaves : List (List Cell)) (s : Seat) : Type 0 where
  pub leaf : s.leaf < length leaves
  pub place : s.place < length (leaf_cells leaves s.leaf)

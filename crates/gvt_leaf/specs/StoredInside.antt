-- What the fields of leaves show.
use Rattle.std.specs.Prelude.{◌≡◌, length}
use Rattle.std.specs.List.{AllByRecursion}
use Rattle.journal_defs.specs.Leaves.{IsCell}
use Rattle.gvt_leaf.specs.Chained.{all_cells}
use Rattle.gvt_leaf.specs.Nodes.{globals_in}
use Rattle.gvt_leaf.specs.Order.{AreRising}
use Rattle.gvt_leaf.specs.Stored.{Stored}
use Rattle.gvt_leaf.specs.declared.leaves.Leaves.TheInside.{Inside}

abbrev pub stored : Inside → Stored
stored s = record { globals = globals_in (all_cells s.chain.leaves); pool = s.chain.pool }

pub record IsStored (s : Inside) : Type 0 where
  pub rising : AreRising s.chain.leaves
  pub forms : AllByRecursion IsCell (all_cells s.chain.leaves)
  pub count : s.nodes ≡ length (all_cells s.chain.leaves)

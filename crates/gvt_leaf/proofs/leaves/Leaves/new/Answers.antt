use Rattle.std.proofs.Common.{List, ap, ◌∙◌}
use Rattle.journal_defs.specs.Leaves.{Cell}
use Rattle.gvt_leaf.specs.Chained.{all_cells}
use Rattle.gvt_leaf.specs.Nodes.{globals_in}
use Rattle.gvt_leaf.proofs.Made.{none_in, stored_none}
use Rattle.gvt_leaf.proofs.leaves.Leaves.new.Goals as goal

pub returns-clause-globals : goal.returns-clause-globals
returns-clause-globals c = ap (λ (ls : List (List Cell)). globals_in (all_cells ls)) c.in_ok-new.ensures.leaves ∙ none_in

pub invariant_of-result : goal.invariant_of-result
invariant_of-result c = stored_none c.in_ok-new.field-0 c.in_ok-new.ensures.leaves

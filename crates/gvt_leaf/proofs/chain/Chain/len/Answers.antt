use Rattle.std.proofs.Common.{subst}
use Rattle.std.specs.List.{AllByRecursion}
use Rattle.journal_defs.specs.Leaves.{IsCell}
use Rattle.block_pool.specs.Pool.{leaf_at}
use Rattle.gvt_leaf.specs.Chained.{Chained, all_cells}
use Rattle.gvt_leaf.proofs.Kept.{all_forms}
use Rattle.gvt_leaf.proofs.chain.Chain.len.Goals as goal

pub returns-clause-forms : goal.returns-clause-forms
returns-clause-forms c = subst (λ (v : Chained). AllByRecursion IsCell (all_cells v.leaves)) c.self.view_is (all_forms (leaf_at c.self.inside.pool) c.self.inside.order.items c.self.invariant.forms)

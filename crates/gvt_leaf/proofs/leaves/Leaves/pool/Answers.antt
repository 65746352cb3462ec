use Rattle.std.proofs.Common.{sym, subst}
use Rattle.journal_defs.specs.Leaves.{Decodes}
use Rattle.block_laws.specs.Nodes.{HaveKeys, HaveShortValues}
use Rattle.gvt_leaf.specs.Chained.{all_cells}
use Rattle.gvt_leaf.specs.Nodes.{globals_in}
use Rattle.gvt_leaf.specs.Stored.{Stored, blocks_in}
use Rattle.gvt_leaf.proofs.Made.{held}
use Rattle.gvt_leaf.proofs.leaves.Leaves.pool.Goals as goal

pub returns-clause-decodes : goal.returns-clause-decodes
returns-clause-decodes c =
    subst (λ (s : Stored). Decodes (blocks_in s.pool.leaves) s.globals) c.self.view_is
    (c.pool.ensures.decodes (globals_in (all_cells c.self.inside.chain.leaves)) c.self.invariant.rising.filled (sym (held c.self.inside c.self.invariant).are))

pub returns-clause-keys : goal.returns-clause-keys
returns-clause-keys c = subst (λ (s : Stored). HaveKeys s.globals) c.self.view_is (held c.self.inside c.self.invariant).keys

pub returns-clause-values : goal.returns-clause-values
returns-clause-values c = subst (λ (s : Stored). HaveShortValues s.globals) c.self.view_is (held c.self.inside c.self.invariant).values

use Rattle.std.proofs.Common.{◌≡◌, ◌≢◌, [], drop, subst}
use Rattle.std.specs.List.{AllByRecursion}
use Rattle.journal_defs.specs.Leaves.{Decodes, cells_of}
use Rattle.gvt_leaf.specs.Chained.{Chained, all_cells}
use Rattle.gvt_leaf.specs.Stored.{blocks_in}
use Rattle.gvt_leaf.proofs.Still.{chained_decodes}
use Rattle.gvt_leaf.proofs.chain.Chain.pool.Goals as goal

pub returns-clause-decodes : goal.returns-clause-decodes
returns-clause-decodes c g =
    subst (λ (v : Chained). AllByRecursion (λ l. l ≢ []) (drop 1 v.leaves) → all_cells v.leaves ≡ cells_of g → Decodes (blocks_in v.pool.leaves) g) c.self.view_is (chained_decodes c.self.inside c.self.invariant g)

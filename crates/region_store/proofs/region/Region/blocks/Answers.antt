use Rattle.std.proofs.Common.{subst}
use Rattle.journal_defs.specs.Leaves.{Decodes}
use Rattle.gvt_leaf.specs.Stored.{blocks_in}
use Rattle.region_store.specs.Region.{Standing}
use Rattle.region_store.proofs.region.Region.blocks.Goals as goal

pub returns-clause-decodes : goal.returns-clause-decodes
returns-clause-decodes c = subst (λ (x : Standing). Decodes (blocks_in x.pool.leaves) x.globals) c.self.view_is c.pool.ensures.decodes

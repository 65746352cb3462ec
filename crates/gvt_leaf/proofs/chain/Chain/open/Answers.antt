use Rattle.std.proofs.Common.{◌≡◌, ℕ, List, sym, subst}
use Rattle.std.specs.List.{AllByRecursion}
use Rattle.journal_defs.specs.Leaves.{IsCell, Decodes, cells_of}
use Rattle.gvt_leaf.specs.Chained.{all_cells}
use Rattle.gvt_leaf.specs.Stored.{blocks_in}
use Rattle.gvt_leaf.specs.Walked.{leaves_of}
use Rattle.gvt_leaf.proofs.Opened.{walked_forms, walked_decodes}
use Rattle.gvt_leaf.proofs.chain.Chain.open.Goals as goal

pub returns-clause-forms : goal.returns-clause-forms
returns-clause-forms c =
    let walked = c.in_ok-order.field-0 in
    subst (λ (ns : List ℕ). AllByRecursion IsCell (all_cells (leaves_of c.args.pool ns))) (sym c.reserve.ensures.items)
    (walked_forms c.args.pool walked.order.items walked.seen.items c.in_ok-order.ensures.walked)

pub returns-clause-decodes : goal.returns-clause-decodes
returns-clause-decodes c g =
    let walked = c.in_ok-order.field-0 in
    subst (λ (ns : List ℕ). all_cells (leaves_of c.args.pool ns) ≡ cells_of g → Decodes (blocks_in c.args.pool.leaves) g) (sym c.reserve.ensures.items)
    (walked_decodes c.args.pool walked.order.items walked.seen.items c.in_ok-order.ensures.walked g)

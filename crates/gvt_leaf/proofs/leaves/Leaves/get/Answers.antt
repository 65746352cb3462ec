use Rattle.std.proofs.Common.{sym, ap, ◌∙◌}
use Rattle.std.specs.Ordering.{nat_cmp}
use Rattle.std.specs.Cmp.Lexicographic.{slice_cmp}
use Rattle.std.specs.FinMap as globals
use Rattle.gvt_leaf.specs.Chained.{all_cells}
use Rattle.gvt_leaf.specs.Stored.{Stored}
use Rattle.gvt_leaf.proofs.Backed.{value_there}
use Rattle.gvt_leaf.proofs.Made.{held}
use Rattle.gvt_leaf.proofs.leaves.Leaves.get.Goals as goal

pub returns : goal.returns
returns c =
    c.value_of.ensures ∙ ap (λ k. globals.find (slice_cmp nat_cmp) k (all_cells c.self.inside.chain.leaves)) c.as_encoded.ensures.value
    ∙ sym (value_there (all_cells c.self.inside.chain.leaves) c.args.key.now (held c.self.inside c.self.invariant) c.as_encoded.ensures.valid)
    ∙ ap (λ (s : Stored). globals.get s.globals c.args.key.now) c.self.view_is

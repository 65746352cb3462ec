use Rattle.std.proofs.Common.{◌∙◌, sym, ap, subst, refl, ◌≤◌, length, List, ◌∷◌, []}
use Rattle.journal_defs.specs.Leaves.{Cell}
use Rattle.block_fmt.specs.Cells.{without_between}
use Rattle.gvt_leaf.specs.Chained.{replaced}
use Rattle.gvt_leaf.proofs.Kept.{number_inside, leaf_there, chained_still, leaves_still}
use Rattle.gvt_leaf.proofs.chain.Chain.cut.Goals as goal

pub cut_in-requires-clause-inside : goal.cut_in-requires-clause-inside
cut_in-requires-clause-inside c = number_inside c.self.inside c.args.self.now c.self.invariant c.self.view_is c.args.i c.index.result.now c.index.ensures c.requires.inside

pub cut_in-requires-clause-cells : goal.cut_in-requires-clause-cells
cut_in-requires-clause-cells c =
    subst (λ (cells : List Cell). c.args.to ≤ length cells) (sym (leaf_there c.self.inside c.args.self.now c.self.view_is c.args.i c.index.result.now c.index.ensures c.requires.inside)) c.requires.cells

pub invariant_of-self : goal.invariant_of-self
invariant_of-self c =
    chained_still c.self.inside c.args.self.now c.self.invariant c.self.view_is c.cut_in.new.pool c.args.i c.index.result.now _ c.index.ensures c.requires.inside c.cut_in.ensures.changed refl c.cut_in.ensures.form

pub returns-clause-leaves : goal.returns-clause-leaves
returns-clause-leaves c =
    leaves_still c.self.inside c.args.self.now c.self.invariant c.self.view_is c.cut_in.new.pool c.args.i c.index.result.now _ c.index.ensures c.requires.inside c.cut_in.ensures.changed refl c.cut_in.ensures.form
    ∙ ap (λ (cells : List Cell). replaced c.args.self.now.leaves c.args.i (without_between cells c.args.from c.args.to ∷ [])) (leaf_there c.self.inside c.args.self.now c.self.view_is c.args.i c.index.result.now c.index.ensures c.requires.inside)

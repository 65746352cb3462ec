use Rattle.std.proofs.Common.{◌∙◌, sym, ap, subst, refl, ◌≤◌, List, ◌∷◌, []}
use Rattle.std.specs.Ordering.{nat_cmp}
use Rattle.std.specs.Cmp.Lexicographic.{slice_cmp}
use Rattle.std.specs.FinMap as globals
use Rattle.journal_defs.specs.Leaves.{Cell, ROOM}
use Rattle.std.specs.Prelude.{IfOk, IfErr}
use Rattle.block_fmt.specs.Cells.{size_of, StandsIn, BelongsAt}
use Rattle.gvt_leaf.specs.Chained.{replaced}
use Rattle.gvt_leaf.proofs.Kept.{number_inside, leaf_there, chained_still, leaves_still}
use Rattle.gvt_leaf.proofs.chain.Chain.put_at.Goals as goal

pub put_in-requires-clause-inside : goal.put_in-requires-clause-inside
put_in-requires-clause-inside c = number_inside c.self.inside c.args.self.now c.self.invariant c.self.view_is c.args.i c.index.result.now c.index.ensures c.requires.inside

pub put_in-requires-clause-found : goal.put_in-requires-clause-found
put_in-requires-clause-found c =
    subst (λ (cells : List Cell). IfOk c.args.place (StandsIn cells c.args.key.now)) (sym (leaf_there c.self.inside c.args.self.now c.self.view_is c.args.i c.index.result.now c.index.ensures c.requires.inside)) c.requires.found

pub put_in-requires-clause-place : goal.put_in-requires-clause-place
put_in-requires-clause-place c =
    subst (λ (cells : List Cell). IfErr c.args.place (BelongsAt cells c.args.key.now)) (sym (leaf_there c.self.inside c.args.self.now c.self.view_is c.args.i c.index.result.now c.index.ensures c.requires.inside)) c.requires.place

pub put_in-requires-clause-fits : goal.put_in-requires-clause-fits
put_in-requires-clause-fits c =
    subst (λ (cells : List Cell). size_of (globals.put (slice_cmp nat_cmp) c.args.key.now c.args.value.now cells) ≤ ROOM) (sym (leaf_there c.self.inside c.args.self.now c.self.view_is c.args.i c.index.result.now c.index.ensures c.requires.inside)) c.requires.fits

pub invariant_of-self : goal.invariant_of-self
invariant_of-self c =
    chained_still c.self.inside c.args.self.now c.self.invariant c.self.view_is c.put_in.new.pool c.args.i c.index.result.now _ c.index.ensures c.requires.inside c.put_in.ensures.changed refl c.put_in.ensures.form

pub returns-clause-leaves : goal.returns-clause-leaves
returns-clause-leaves c =
    leaves_still c.self.inside c.args.self.now c.self.invariant c.self.view_is c.put_in.new.pool c.args.i c.index.result.now _ c.index.ensures c.requires.inside c.put_in.ensures.changed refl c.put_in.ensures.form
    ∙ ap (λ (cells : List Cell). replaced c.args.self.now.leaves c.args.i (globals.put (slice_cmp nat_cmp) c.args.key.now c.args.value.now cells ∷ [])) (leaf_there c.self.inside c.args.self.now c.self.view_is c.args.i c.index.result.now c.index.ensures c.requires.inside)

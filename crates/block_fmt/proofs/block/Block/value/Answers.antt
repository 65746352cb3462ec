use Rattle.std.proofs.Common.{◌≡◌, List, ℕ, drop, take, arith, ap, ◌∙◌, subst, sym}
use Rattle.journal_defs.specs.Leaves.{Cell}
use Rattle.block_fmt.specs.Cells.{size_of}
use Rattle.block_fmt.specs.Read.{first_cell, BeginWithCell}
use Rattle.block_fmt.proofs.Held.{holds_view, place_count, held_place, cell_begins, cell_first}
use Rattle.block_fmt.proofs.block.Block.value.Goals as goal

pub index-requires : goal.index-requires
index-requires c =
    let h = holds_view c.self.inside c.args.self.now c.self.view_is c.self.invariant in
    omega (arith, c.requires, place_count c.self.inside c.args.self.now h)

pub value_at-requires : goal.value_at-requires
value_at-requires c =
    let h = holds_view c.self.inside c.args.self.now c.self.view_is c.self.invariant in
    let at : c.from.result ≡ size_of (take c.args.i c.args.self.now.cells) = omega (arith, c.from.ensures, c.index.ensures, held_place c.self.inside c.args.self.now c.args.i c.index.result.now h c.requires) in
    subst (λ (l : List ℕ). BeginWithCell (drop c.from.result l)) (sym c.deref.ensures.value) (cell_begins c.self.inside c.args.self.now c.args.i c.from.result h c.requires at)

pub returns : goal.returns
returns c =
    let h = holds_view c.self.inside c.args.self.now c.self.view_is c.self.invariant in
    let at : c.from.result ≡ size_of (take c.args.i c.args.self.now.cells) = omega (arith, c.from.ensures, c.index.ensures, held_place c.self.inside c.args.self.now c.args.i c.index.result.now h c.requires) in
    c.value_at.ensures ∙ ap (λ (l : List ℕ). (first_cell (drop c.from.result l)).1) c.deref.ensures.value ∙ ap (λ (x : Cell). x.1) (cell_first c.self.inside c.args.self.now c.args.i c.from.result h c.requires at)

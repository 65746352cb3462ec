use Rattle.std.proofs.Common.{List, ℕ, length, sym, subst}
use Rattle.block_fmt.specs.Inside.{leaf_of}
use Rattle.block_fmt.specs.Read.{AreCells}
use Rattle.block_fmt.proofs.Held.{held_are_cells}
use Rattle.block_fmt.proofs.block.Block.copy.Goals as goal

pub fill-requires-clause-cells : goal.fill-requires-clause-cells
fill-requires-clause-cells c =
    subst (λ (ps : List ℕ). AreCells (length ps) c.deref.result.now) (sym c.deref-2.ensures.value)
    (subst (λ (bytes : List ℕ). AreCells (length c.self.inside.places.items) bytes) (sym c.deref.ensures.value) (held_are_cells c.self.inside (leaf_of c.self.inside) c.self.invariant))

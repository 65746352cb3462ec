use Rattle.std.proofs.Common.{◌∙◌, ◌++◌, ℕ, List, ap, arith, vec_len}
use Rattle.block_fmt.specs.Inside.{Holds}
use Rattle.block_fmt.specs.Read.{cells_in}
use Rattle.block_fmt.specs.declared.block.Block.TheInside.{Inside}
use Rattle.block_fmt.proofs.Held.{holds_own}
use Rattle.block_fmt.proofs.Changed.{filled_made}
use Rattle.block_fmt.proofs.block.Block.of_cells.Goals as goal
use Rattle.block_fmt.proofs.block.Block.of_cells.Goals.{After-push_all}

abbrev made : After-push_all → Inside
made c = record { next = c.args.next; bytes = c.push_all.new.bytes; places = c.args.of }

holds : (c : After-push_all) → Holds (made c) (record { next = c.args.next; cells = cells_in (vec_len c.args.of) c.args.cells.now })
holds c =
    filled_made (made c) (vec_len c.args.of) c.args.cells.now (omega (arith, c.ranges.next.fits)) c.requires.cells c.requires.fit (c.push_all.ensures.items ∙ ap (λ (l : List ℕ). l ++ c.args.cells.now) c.in_ok-bytes.ensures.items) c.requires.of
    (omega (arith, c.push_all.ensures.capacity, c.in_ok-bytes.ensures.capacity)) c.requires.room

pub invariant_of-result : goal.invariant_of-result
invariant_of-result c = holds_own (made c) _ (holds c)

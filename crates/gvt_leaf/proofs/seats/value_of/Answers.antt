use Rattle.std.proofs.Common.{Some, ap, sym, ◌∙◌}
use Rattle.std.specs.Ordering.{nat_cmp}
use Rattle.std.specs.Cmp.Lexicographic.{slice_cmp}
use Rattle.std.specs.FinMap as globals
use Rattle.gvt_leaf.proofs.Seated.{value_here}
use Rattle.gvt_leaf.proofs.seats.value_of.Goals as goal

pub returns-in-Ok : goal.returns-in-Ok
returns-in-Ok c =
    ap Some c.value.ensures ∙ sym c.in-Ok.ensures.value ∙ ap (globals.find (slice_cmp nat_cmp) c.args.key.now) c.leaf-leaf.ensures
    ∙ sym (value_here c.args.chain.now.leaves c.args.key.now c.seat.result c.seat.ensures)

pub returns-in-Err : goal.returns-in-Err
returns-in-Err c =
    sym c.in-Err.ensures.none ∙ ap (globals.find (slice_cmp nat_cmp) c.args.key.now) c.leaf-leaf.ensures
    ∙ sym (value_here c.args.chain.now.leaves c.args.key.now c.seat.result c.seat.ensures)

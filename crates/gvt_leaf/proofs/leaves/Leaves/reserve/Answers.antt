use Rattle.std.proofs.Common.{◌≡◌, ◌≤◌, List, Result, Ok, Err, OnOk, sym, ap, ◌∙◌, arith}
use Rattle.std.specs.FinMap as globals
use Rattle.journal_defs.specs.Leaves.{Cell}
use Rattle.gvt_leaf.specs.Chained.{all_cells}
use Rattle.gvt_leaf.specs.Nodes.{globals_in}
use Rattle.gvt_leaf.specs.Stored.{HasRoom}
use Rattle.gvt_leaf.proofs.Backed.{as_many}
use Rattle.gvt_leaf.proofs.Made.{held}
use Rattle.gvt_leaf.proofs.leaves.Leaves.reserve.Goals as goal

told_so : {A E : Type 0} (r : Result A E) (P Q : Type 0) → (P → Q) → OnOk r P → OnOk r Q
told_so (Ok x) P Q f p = f p
told_so (Err e) P Q f p = tt

pub returns-clause-ok : goal.returns-clause-ok
returns-clause-ok c =
    let s = c.self.inside in
    let chain = c.reserve.new.self in
    let len : globals.len (globals_in (all_cells chain.leaves)) ≡ s.nodes =
    ap (λ (ls : List (List Cell)). globals.len (globals_in (all_cells ls))) c.reserve.ensures.leaves ∙ as_many (all_cells s.chain.leaves) (held s c.self.invariant) ∙ sym c.self.invariant.count in
    told_so c.reserve.result (c.args.sets ≤ chain.pool.room) (HasRoom (record { globals = globals_in (all_cells chain.leaves); pool = chain.pool }) c.args.sets)
    (λ room. record { leaves = room; numbers = omega (arith, len, c.if-self-sets.false, c.self.ranges) }) c.reserve.ensures.room

use Rattle.std.proofs.Common.{◌≡◌, ◌-◌, false, List, length, take, drop, ap, subst, arith}
use Rattle.std.specs.List.{AllByRecursion}
use Rattle.journal_defs.specs.Leaves.{Cell}
use Rattle.gvt_leaf.proofs.Updates.{is_outside}
use Rattle.gvt_leaf.proofs.TakenOut.{out_outside}
use Rattle.gvt_leaf.proofs.Runs.{begun_inside}
use Rattle.gvt_leaf.proofs.edits.cut_run.Goals as goal

pub returns-clause-kept : goal.returns-clause-kept
returns-clause-kept c =
    let from = c.args.from in
    let end = c.run_end-end.result in
    let cells = c.leaf.result.now.cells in
    let e = c.run_end-end.ensures in
    out_outside c.args.chain.now.leaves c.args.i from end c.requires.inside e.order (omega (arith, e.inside, ap (λ (l : List Cell). length l) c.leaf.ensures)) c.take_out.new.chain.leaves c.take_out.ensures.cells c.args.code.now
    (subst (λ (l : List Cell). AllByRecursion (λ x. is_outside c.args.code.now x ≡ false) (take (end - from) (drop from l))) c.leaf.ensures (begun_inside c.args.code.now (take (end - from) (drop from cells)) e.run))

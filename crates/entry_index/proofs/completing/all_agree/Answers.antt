use Rattle.std.proofs.Common.{ℕ, Bool, sym, ◌∙◌, arith}
use Rattle.mupip_recover.proofs.RegionLists.{all_more, all_fails}
use Rattle.entry_index.specs.Completing.{agrees_by_sign}
use Rattle.entry_index.specs.Table.{row_sign}
use Rattle.entry_index.proofs.completing.all_agree.Goals as goal

pub returns-then-not-agrees : goal.returns-then-not-agrees
returns-then-not-agrees c =
    let f : ℕ → Bool = λ r. agrees_by_sign c.args.head.now (row_sign c.args.row.now r) r in
    sym (c.loop-region.invariant ∙ all_fails f c.loop-region.region (omega arith) (sym c.agrees.ensures ∙ c.if-not-agrees.true))

pub loop-region-preserved : goal.loop-region-preserved
loop-region-preserved c =
    let f : ℕ → Bool = λ r. agrees_by_sign c.args.head.now (row_sign c.args.row.now r) r in
    c.loop-region.invariant ∙ all_more f c.loop-region.region (omega arith) (sym c.agrees.ensures ∙ c.if-not-agrees.false)

use Rattle.std.proofs.Common.{ℕ, Bool, not, ◌||◌, sym, ◌∙◌, arith}
use Rattle.journal_defs.specs.Sequence.{in_mask, is_like}
use Rattle.mupip_recover.specs.Parts.{part_value}
use Rattle.mupip_recover.specs.Table.{part_at}
use Rattle.mupip_recover.proofs.RegionLists.{all_more, all_fails}
use Rattle.mupip_recover.proofs.completing.all_agree.Goals as goal

pub returns-then-not-agrees : goal.returns-then-not-agrees
returns-then-not-agrees c =
    let f : ℕ → Bool = λ r. not (in_mask c.args.head.now.mask r) || is_like (part_value c.args.head.now) (part_at c.args.table.now c.args.place r) in
    sym (c.loop-region.invariant ∙ all_fails f c.loop-region.region (omega arith) (sym c.agrees.ensures ∙ c.if-not-agrees.true))

pub loop-region-preserved : goal.loop-region-preserved
loop-region-preserved c =
    let f : ℕ → Bool = λ r. not (in_mask c.args.head.now.mask r) || is_like (part_value c.args.head.now) (part_at c.args.table.now c.args.place r) in
    c.loop-region.invariant ∙ all_more f c.loop-region.region (omega arith) (sym c.agrees.ensures ∙ c.if-not-agrees.false)

use Rattle.std.proofs.Common.{◌+◌, List, get_or, Option, None, ◌∙◌, ap, arith}
use Rattle.entry_index.specs.declared.signed_part.PartSign.{PartSign}
use Rattle.entry_index.specs.Signs.{last_sign}
use Rattle.mupip_recover.proofs.Columns.{all_seen}
use Rattle.entry_index.proofs.Columns.{by_region}
use Rattle.entry_index.proofs.table.SignTable.of.Goals as goal

pub returns-clause-parts : goal.returns-clause-parts
returns-clause-parts c = λ rs cuts i r low.
    ap (λ (l : List (Option PartSign)). get_or l r None)
    (all_seen (λ s. last_sign rs (i + 1) s.items) _ _ c.args.signs.now c.loop-region.region-index (omega arith) (c.loop-region.invariant.each rs cuts i low))
    ∙ by_region (λ s. s.items) rs (i + 1) c.args.signs.now r

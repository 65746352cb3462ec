use Rattle.std.proofs.Common.{◌+◌, List, map, get_or, Option, None, ◌∙◌, ap, arith}
use Rattle.journal_defs.specs.Journal.{Part}
use Rattle.journal_defs.specs.Sequence.{part_of}
use Rattle.jnl_record.specs.Values.{placed_value}
use Rattle.mupip_recover.proofs.Columns.{by_region, all_seen}
use Rattle.mupip_recover.proofs.table.Table.of.Goals as goal

pub returns : goal.returns
returns c = λ rs cuts i r low.
    ap (λ (l : List (Option Part)). get_or l r None)
    (all_seen (λ j. part_of rs (i + 1) (map placed_value j.items)) _ _ c.args.journals.now c.loop-journal.journal-index (omega arith) (c.loop-journal.invariant rs cuts i low))
    ∙ by_region (λ j. j.items) placed_value rs (i + 1) c.args.journals.now r

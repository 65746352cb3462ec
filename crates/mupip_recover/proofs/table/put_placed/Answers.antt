use Rattle.std.proofs.Common.{◌+◌, Option, Some, None, sym, ◌∙◌, ap}
use Rattle.std.specs.Option.{option_map, option_or}
use Rattle.journal_defs.specs.Journal.{Part}
use Rattle.jnl_record.specs.Values.{record_value}
use Rattle.mupip_recover.specs.Parts.{part_value}
use Rattle.mupip_recover.specs.Table.{part_in_column}
use Rattle.mupip_recover.proofs.Columns.{counts_for}
use Rattle.mupip_recover.proofs.table.put_placed.Goals as goal

pub returns-in-Some-clause-put : goal.returns-in-Some-clause-put
returns-in-Some-clause-put c = λ rs cuts i low.
    let placed = c.args.placed.now in
    let counts = counts_for rs (i + 1) placed.generation (record_value placed.what) (Some (part_value c.in-Some.added)) (ap (option_map part_value) (sym c.in-Some.is) ∙ c.surviving_part.ensures rs cuts) in
    c.put.ensures.put i low ∙ ap (λ (o : Option Part). option_or o (part_in_column i c.args.column.now.items)) (sym counts)

pub returns-in_default-clause-put : goal.returns-in_default-clause-put
returns-in_default-clause-put c = λ rs cuts i low.
    let placed = c.args.placed.now in
    let counts = counts_for rs (i + 1) placed.generation (record_value placed.what) None (ap (option_map part_value) (sym c.in_default.is) ∙ c.surviving_part.ensures rs cuts) in
    ap (λ (o : Option Part). option_or o (part_in_column i c.args.column.now.items)) (sym counts)

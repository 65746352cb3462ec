use Rattle.std.proofs.Common.{◌+◌, ◌∙◌, arith}
use Rattle.entry_index.specs.Table.{sign_in_column}
use Rattle.entry_index.proofs.Columns.{column_more, column_whole}
use Rattle.entry_index.proofs.table.column_of.Goals as goal

pub loop-placed-preserved : goal.loop-placed-preserved
loop-placed-preserved c =
    let l = c.loop-placed in
    record {
      many = c.put_surviving.ensures.many ∙ l.invariant.many;
      each = λ rs cuts i low. column_more rs (i + 1) l.placed-index c.args.signs.now _ (sign_in_column i l.column.items) (sign_in_column i c.put_surviving.new.column.items) (omega arith)
          (c.put_surviving.ensures.put rs cuts i (omega (arith, low, l.invariant.many))) (l.invariant.each rs cuts i low);
    }

pub returns : goal.returns
returns c = λ rs cuts.
    let l = c.loop-placed in
    record {
      many = l.invariant.many;
      each = λ i low. column_whole rs (i + 1) l.placed-index c.args.signs.now (sign_in_column i l.column.items) (omega arith) (l.invariant.each rs cuts i low);
    }

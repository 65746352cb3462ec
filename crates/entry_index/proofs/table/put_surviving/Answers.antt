use Rattle.std.proofs.Common.{◌+◌, true, false, Option, sym, ◌∙◌, ap}
use Rattle.std.specs.Option.{option_or}
use Rattle.entry_index.specs.declared.signed_part.PartSign.{PartSign}
use Rattle.entry_index.specs.Signs.{if_numbered}
use Rattle.entry_index.specs.Table.{sign_in_column}
use Rattle.entry_index.proofs.Columns.{surviving_sign}
use Rattle.entry_index.proofs.table.put_surviving.Goals as goal

pub returns-then-spare-clause-put : goal.returns-then-spare-clause-put
returns-then-spare-clause-put c = λ rs cuts i low.
    let was = sign_in_column i c.args.column.now.items in
    let is = sym c.part_sign.ensures ∙ c.in-Some.is in
    let counts = surviving_sign rs (i + 1) c.args.placed.now c.in-Some.part true is (sym (c.spare.ensures rs cuts) ∙ c.if-spare.true) in
    c.put.ensures.put i low
    ∙ ap (λ (o : Option PartSign). option_or (if_numbered (i + 1) o) was) is
    ∙ ap (λ (o : Option PartSign). option_or o was) (sym counts)

pub returns-else-spare-clause-put : goal.returns-else-spare-clause-put
returns-else-spare-clause-put c = λ rs cuts i low.
    let was = sign_in_column i c.args.column.now.items in
    let is = sym c.part_sign.ensures ∙ c.in-Some.is in
    let counts = surviving_sign rs (i + 1) c.args.placed.now c.in-Some.part false is (sym (c.spare.ensures rs cuts) ∙ c.if-spare.false) in
    sym (ap (λ (o : Option PartSign). option_or o was) counts)

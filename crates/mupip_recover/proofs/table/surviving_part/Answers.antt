use Rattle.std.proofs.Common.{Bool, Some, None, if◌then◌else◌, sym, ◌∙◌, ap}
use Rattle.journal_defs.specs.Journal.{Part}
use Rattle.jnl_record.specs.Values.{record_value}
use Rattle.gvn_model.specs.Entries.{origin_value}
use Rattle.mupip_recover.specs.Parts.{surviving_in}
use Rattle.mupip_recover.proofs.table.surviving_part.Goals as goal

pub returns-then-spare : goal.returns-then-spare
returns-then-spare c = λ rs cuts.
    let t = c.in-Tcom in
    let p : Part = record { number = t.number; mask = t.mask; origin = origin_value t.origin; count = t.count; items = t.items } in
    sym (ap (λ what. surviving_in rs c.args.placed.now.generation (record_value what)) t.is
    ∙ ap (λ (b : Bool). if b then Some p else None) (sym (c.spare.ensures rs cuts) ∙ c.if-spare.true))

pub returns-else-spare : goal.returns-else-spare
returns-else-spare c = λ rs cuts.
    let t = c.in-Tcom in
    let p : Part = record { number = t.number; mask = t.mask; origin = origin_value t.origin; count = t.count; items = t.items } in
    sym (ap (λ what. surviving_in rs c.args.placed.now.generation (record_value what)) t.is
    ∙ ap (λ (b : Bool). if b then Some p else None) (sym (c.spare.ensures rs cuts) ∙ c.if-spare.false))

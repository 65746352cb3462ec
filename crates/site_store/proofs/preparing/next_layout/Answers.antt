use Rattle.std.proofs.Common.{◌+◌, ◌∙◌, ap}
use Rattle.site_store.proofs.Layouts.{layout_next}
use Rattle.site_store.proofs.preparing.next_layout.Goals as goal

pub returns : goal.returns
returns c = λ n. layout_next c.args.records.now n (record { name = c.in_ok-of.field-0; regions = c.in_ok-specs_of.field-0; directory = c.args.directory; generation = c.generation.result + 1 })
    (c.in_ok-of.ensures ∙ c.name.ensures) (c.in_ok-specs_of.ensures ∙ c.regions.ensures) c.requires.directory (ap (λ k. k + 1) c.generation.ensures)

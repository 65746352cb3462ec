use Rattle.std.proofs.Common.{None, Some, sym, ◌∙◌, ap, subst}
use Rattle.std.specs.List.Sorted.{IsNonDecreasing}
use Rattle.std.specs.Option.{option_map}
use Rattle.mupip_recover.proofs.CutLaws.{spared_by}
use Rattle.mupip_recover.proofs.Lookups.{item-slice_get}
use Rattle.std.specs.Prelude.{slice_get}
use Rattle.mupip_recover.proofs.cuts.Cuts.spare.Goals as goal

pub how_many_up_to-passed-requires : goal.how_many_up_to-passed-requires
how_many_up_to-passed-requires c =
    let (rs, cuts) = c.requires in
    subst IsNonDecreasing (sym (c.deref.ensures.value ∙ cuts.generations)) cuts.order

pub returns-in-None : goal.returns-in-None
returns-in-None c = λ rs cuts.
    spared_by c.args.generation c.args.number rs c.args.self.now cuts c.how_many_up_to-passed.result (cc) None
    (ap (option_map (λ x. x.now)) (sym c.in-None.is) ∙ item-slice_get c.deref-2.result.now c.how_many_up_to-passed.result c.get.result c.get.ensures.lookup
    ∙ ap (λ l. slice_get l c.how_many_up_to-passed.result) c.deref-2.ensures.value)

pub returns-in-Some : goal.returns-in-Some
returns-in-Some c = λ rs cuts.
    spared_by c.args.generation c.args.number rs c.args.self.now cuts c.how_many_up_to-passed.result (cc) (Some c.in-Some.length.now)
    (ap (option_map (λ x. x.now)) (sym c.in-Some.is) ∙ item-slice_get c.deref-2.result.now c.how_many_up_to-passed.result c.get.result c.get.ensures.lookup
    ∙ ap (λ l. slice_get l c.how_many_up_to-passed.result) c.deref-2.ensures.value)

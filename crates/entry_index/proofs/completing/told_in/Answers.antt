use Rattle.std.proofs.Common.{Option, sym, ◌∙◌, subst}
use Rattle.entry_index.specs.declared.signed_part.PartSign.{PartSign}
use Rattle.entry_index.specs.Signs.{IsSign}
use Rattle.entry_index.proofs.Complete.{told_by_part, told_alone, no_part_there}
use Rattle.entry_index.proofs.completing.told_in.Goals as goal

pub returns-in-None : goal.returns-in-None
returns-in-None c = λ files n part are stamp.
    let r = c.args.region in
    no_part_there files n part stamp r (subst (λ (o : Option PartSign). IsSign files r n o (part r)) (sym c.part_in.ensures ∙ c.in-None.is) (are r))

pub returns-then-is_alone : goal.returns-then-is_alone
returns-then-is_alone c = λ files n part are stamp.
    let r = c.args.region in
    told_alone files n part stamp r c.in-Some.head c.requires (subst (λ (o : Option PartSign). IsSign files r n o (part r)) (sym c.part_in.ensures ∙ c.in-Some.is) (are r)) (c.is_alone.ensures c.if-is_alone.true)

pub returns-else-is_alone : goal.returns-else-is_alone
returns-else-is_alone c = λ files n part are stamp.
    let r = c.args.region in
    told_by_part files n part stamp r c.in-Some.head c.told_by.result (subst (λ (o : Option PartSign). IsSign files r n o (part r)) (sym c.part_in.ensures ∙ c.in-Some.is) (are r))
    (λ p tells. c.told_by.ensures files n part are r p tells)

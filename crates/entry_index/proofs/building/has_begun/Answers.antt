use Rattle.std.proofs.Common.{◌≡◌, ◌<◌, length, not, sym, ◌∙◌, ap, arith}
use Rattle.std.proofs.lemmas.Bool.Decides.{nat_tests}
use Rattle.entry_index.proofs.Begun.{by_first, none_by, some_by}
use Rattle.entry_index.proofs.building.has_begun.Goals as goal

pub returns-then-not-is_empty : goal.returns-then-not-is_empty
returns-then-not-is_empty c = λ rs are.
    let starts = c.args.starts.now in
    let some : 0 < length starts = grind (arith, nat_tests) in
    sym (by_first c.args.number rs starts are ∙ some_by c.args.number starts 0 some)

pub returns-else-not-is_empty : goal.returns-else-not-is_empty
returns-else-not-is_empty c = λ rs are.
    let starts = c.args.starts.now in
    let none : length starts ≡ 0 = grind (arith, nat_tests) in
    ap not c.if-not-is_empty.false ∙ sym (by_first c.args.number rs starts are ∙ none_by c.args.number starts none)

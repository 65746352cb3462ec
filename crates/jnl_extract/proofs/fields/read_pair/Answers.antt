use Rattle.std.proofs.Common.{refl}
use Rattle.std.specs.Prelude.{decimal}
use Rattle.jnl_extract.proofs.FieldLaws.{halves, number_clean}
use Rattle.jnl_extract.proofs.fields.read_pair.Goals as goal

pub returns-in-None-read_number : goal.returns-in-None-read_number
returns-in-None-read_number c m n p q e =
    let h = halves 46 c.args.text.now c.in-Some.first.now c.in-Some.second.now (decimal m) (decimal n) c.in-Some.ensures.cases e c.in-Some.ensures.first (number_clean 46 m refl p) in
    c.in-None-read_number.ensures m p h.0

pub returns-in-None-read_number-2 : goal.returns-in-None-read_number-2
returns-in-None-read_number-2 c m n p q e =
    let h = halves 46 c.args.text.now c.in-Some.first.now c.in-Some.second.now (decimal m) (decimal n) c.in-Some.ensures.cases e c.in-Some.ensures.first (number_clean 46 m refl p) in
    c.in-None-read_number-2.ensures n q h.1

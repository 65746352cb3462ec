use Rattle.std.proofs.Common.{arith}
use Rattle.jnl_extract.proofs.FieldLaws.{same_pair}
use Rattle.jnl_extract.proofs.fields.read_origin.Goals as goal

pub returns-in-None-origin_of : goal.returns-in-None-origin_of
returns-in-None-origin_of c o i e =
    let s = same_pair c.args.text.now c.in-Some.pair.0 c.in-Some.pair.1 o.updater o.serial c.in-Some.ensures.2 e c.in-Some.ensures.0 c.in-Some.ensures.1 (omega (arith, i.updater)) (omega (arith, i.serial)) in
    c.in-None-origin_of.ensures (omega (arith, s.0, i.updater)) (omega (arith, s.0, i.updater)) (omega (arith, s.1, i.serial)) (omega (arith, s.1, i.serial))

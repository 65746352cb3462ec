use Rattle.std.proofs.lemmas.Bool.{iff_false}
use Rattle.repl_wire.proofs.Digits.{met_parts, met_from}
use Rattle.repl_wire.proofs.front.Front.take.Goals as goal

pub returns-then-not-meets : goal.returns-then-not-meets
returns-then-not-meets c = λ met. iff_false c.meets.ensures c.if-not-meets.true (rw (c.from.ensures, c.unit.ensures) (met_parts c.args.self c.args.byte met))

pub returns : goal.returns
returns c =
    let parts = rw (c.from.ensures, c.unit.ensures) at (c.meets.ensures.0 c.if-not-meets.false) in
    rw c.from.ensures (met_from c.args.self c.args.byte c.requires parts.0 parts.1)

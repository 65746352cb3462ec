use Rattle.std.proofs.Common.{sym, ◌∙◌, arith}
use Rattle.entry_index.proofs.kept.Kept.rests.Goals as goal

pub returns-in_ok-forget : goal.returns-in_ok-forget
returns-in_ok-forget c files instance cuts region before past k =
    let a = c.args in
    c.in_ok-forget.ensures files instance a.lowest region a.settled before c.in-Some.epoch c.in-Some.ensures (sym (c.spare-then-has_doubled.ensures instance cuts) ∙ c.if-spare.true) (omega (arith, c.if-epoch-lowest.false)) (omega (arith, c.if-epoch-settled.false)) past k

use Rattle.std.proofs.Common.{◌≡◌, ◌<◌, ◌^◌, arith}
use Rattle.jnl_extract.proofs.FieldLaws.{same_number}
use Rattle.jnl_extract.proofs.fields.read_cycle.Goals as goal
use Rattle.jnl_extract.proofs.fields.read_cycle.Goals.{then-number-eq0-via-then-number-eq0, then-number-eq0-via-else-number-eq0+then-number-gt-LAST_OF_FOUR_BYTES}

pub returns-then-number-eq0 : goal.returns-then-number-eq0
returns-then-number-eq0 c k p q e =
    let small : k < 2 ^ 64 = omega arith in
    let same : c.in-Some.number ≡ k = same_number c.args.text.now c.in-Some.number k c.in-Some.ensures.1 e c.in-Some.ensures.0 small in
    elim c.then-number-eq0.branch [
      | then-number-eq0-via-then-number-eq0 w ↦ omega (arith, w.if-number-eq0.true, same)
      | then-number-eq0-via-else-number-eq0+then-number-gt-LAST_OF_FOUR_BYTES w ↦ omega (arith, w.if-number-gt-LAST_OF_FOUR_BYTES.true, same)
    ]

use Rattle.std.proofs.Common.{take, refl}
use Rattle.gvn_key.proofs.Whole.{none, not_begun}
use Rattle.gvn_key.proofs.parts.is_code.Goals as goal

pub returns-then-not-take : goal.returns-then-not-take
returns-then-not-take c =
    let bytes = c.args.bytes.now in
    let i = c.loop-byte.byte-index in
    none bytes (not_begun bytes i _ c.loop-byte-test.true refl (c.if-not-take.ensures.begins_none (take i bytes) _ c.loop-byte.invariant))

use Rattle.std.proofs.Common.{◌≡◌, ◌-◌, take, length, arith}
use Rattle.gvn_key.proofs.Behind.{HasRisen, risen}
use Rattle.gvn_key.proofs.Splits.{on_true}
use Rattle.gvn_key.proofs.told.Seen.ends_alike.Goals as goal
use Rattle.gvn_key.proofs.told.Seen.ends_alike.Goals.{After-is_same_front}

has_risen : (c : After-is_same_front) → take (length c.args.next.now - 2) c.args.last.now ≡ take (length c.args.next.now - 2) c.args.next.now → HasRisen c.args.self.now c.args.last.now c.args.next.now
has_risen c same =
    risen c.args.last.now c.args.next.now c.args.self.now (length c.args.next.now - 2) c.requires (omega (arith, c.if-len-lt2.false)) (omega (arith, c.if-place-self.false)) (omega (arith, c.if-place-last.false)) (omega (arith, c.if-place-self-2.false))
    (omega (arith, c.if-byte-last.false)) (omega (arith, c.if-byte-self.false)) (omega (arith, c.if-byte-self-2.false)) c.if-next-len-ne0.false same

pub returns-clause-code : goal.returns-clause-code
returns-clause-code c = on_true c.is_same_front.result _ _ (λ same. (has_risen c same).code) c.is_same_front.ensures

pub returns-clause-order : goal.returns-clause-order
returns-clause-order c = on_true c.is_same_front.result _ _ (λ same. (has_risen c same).order) c.is_same_front.ensures

pub returns-clause-tells : goal.returns-clause-tells
returns-clause-tells c = on_true c.is_same_front.result _ _ (λ same. (has_risen c same).tells) c.is_same_front.ensures

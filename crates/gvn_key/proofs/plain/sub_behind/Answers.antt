use Rattle.std.proofs.Common.{sym, subst, ◌∷◌}
use Rattle.gvn_key.specs.Plain.{BeginWithSub}
use Rattle.gvn_key.proofs.CodeParts.{nought_begins}
use Rattle.gvn_key.proofs.plain.sub_behind.Goals as goal

pub returns-in-2-clause-sub : goal.returns-in-2-clause-sub
returns-in-2-clause-sub c = subst (λ k. BeginWithSub 1 (k ∷ c.args.bytes.now)) (sym c.in-2.is) (nought_begins c.args.bytes.now)

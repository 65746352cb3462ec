use Rattle.std.proofs.Common.{refl}
use Rattle.std.specs.Fmt.{digits}
use Rattle.global_defs.proofs.vectors.text_vectors_hold.Goals as goal

pub returns-clause-mixed : goal.returns-clause-mixed
unfolding digits
returns-clause-mixed c = refl

pub returns-clause-edges : goal.returns-clause-edges
unfolding digits
returns-clause-edges c = refl

pub returns-clause-minus : goal.returns-clause-minus
unfolding digits
returns-clause-minus c = refl

pub returns-clause-first_set : goal.returns-clause-first_set
unfolding digits
returns-clause-first_set c = refl

pub returns-clause-two_kills : goal.returns-clause-two_kills
unfolding digits
returns-clause-two_kills c = refl

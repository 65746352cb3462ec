use Rattle.std.proofs.Common.{refl}
use Rattle.std.specs.Fmt.{digits}
use Rattle.global_defs.proofs.vectors.key_vectors_hold.Goals as goal

pub returns-clause-one : goal.returns-clause-one
unfolding digits
returns-clause-one c = refl

pub returns-clause-nine : goal.returns-clause-nine
unfolding digits
returns-clause-nine c = refl

pub returns-clause-ten : goal.returns-clause-ten
unfolding digits
returns-clause-ten c = refl

pub returns-clause-half : goal.returns-clause-half
unfolding digits
returns-clause-half c = refl

pub returns-clause-minus_one : goal.returns-clause-minus_one
unfolding digits
returns-clause-minus_one c = refl

pub returns-clause-node : goal.returns-clause-node
unfolding digits
returns-clause-node c = refl

use Rattle.std.proofs.Common.{nat_lt, arith}
use Rattle.std.proofs.lemmas.Bool.{le-ltb, lt-ltb}
use Rattle.gvn_key.proofs.Firsts.{first_found, none_found, one_more}
use Rattle.gvn_key.proofs.places.text_tail.Goals as goal

pub loop-at-preserved : goal.loop-at-preserved
loop-at-preserved c = (one_more (λ b. nat_lt b 2) c.args.bytes.now c.loop-at.at c.loop-at.invariant.0 (le-ltb _ 2 c.if-bytes-at-lt2.false), omega arith)

pub returns-then-bytes-at-lt2-clause-place : goal.returns-then-bytes-at-lt2-clause-place
returns-then-bytes-at-lt2-clause-place c = first_found (λ b. nat_lt b 2) c.args.bytes.now c.loop-at.at (omega arith) c.loop-at.invariant.0 (lt-ltb _ 2 c.if-bytes-at-lt2.true)

pub returns-clause-place : goal.returns-clause-place
returns-clause-place c = none_found (λ b. nat_lt b 2) c.args.bytes.now c.loop-at.at (omega arith) c.loop-at.invariant.0

use Rattle.std.proofs.Common.{◌+◌, nat_lt, arith}
use Rattle.gvn_key.proofs.Firsts.{first_found, none_more, all_more}
use Rattle.gvn_key.proofs.places.text_end.Goals as goal

pub loop-at-preserved : goal.loop-at-preserved
loop-at-preserved c =
    let run = c.text_run-run in
    (all_more (λ b. nat_lt b 2) c.args.bytes.now c.loop-at.at 8 run.result c.loop-at.invariant.0 run.ensures (omega arith), omega arith)

pub returns-then-run-lt-LANES-clause-place : goal.returns-then-run-lt-LANES-clause-place
returns-then-run-lt-LANES-clause-place c =
    let run = c.text_run-run in
    first_found (λ b. nat_lt b 2) c.args.bytes.now (c.loop-at.at + run.result) (omega arith) (none_more (λ b. nat_lt b 2) c.args.bytes.now c.loop-at.at 8 run.result c.loop-at.invariant.0 run.ensures) (run.ensures.passes (omega arith))

pub returns-then-run-lt-HALF-clause-place : goal.returns-then-run-lt-HALF-clause-place
returns-then-run-lt-HALF-clause-place c =
    let run = c.text_half-run in
    first_found (λ b. nat_lt b 2) c.args.bytes.now (c.loop-at.at + run.result) (omega arith) (none_more (λ b. nat_lt b 2) c.args.bytes.now c.loop-at.at 4 run.result c.loop-at.invariant.0 run.ensures) (run.ensures.passes (omega arith))

pub text_tail-requires-2-clause-before : goal.text_tail-requires-2-clause-before
text_tail-requires-2-clause-before c =
    let run = c.text_half-run in
    all_more (λ b. nat_lt b 2) c.args.bytes.now c.loop-at.at 4 run.result c.loop-at.invariant.0 run.ensures (omega arith)

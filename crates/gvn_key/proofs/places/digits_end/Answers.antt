use Rattle.std.proofs.Common.{◌+◌, not, arith}
use Rattle.std.specs.Char.{is_ascii_digit}
use Rattle.gvn_key.proofs.Firsts.{first_found, none_more, all_more}
use Rattle.gvn_key.proofs.places.digits_end.Goals as goal

pub loop-at-preserved : goal.loop-at-preserved
loop-at-preserved c =
    let run = c.digits_run-run in
    (all_more (λ b. not (is_ascii_digit b)) c.args.bytes.now c.loop-at.at 8 run.result c.loop-at.invariant.0 run.ensures (omega arith), omega arith)

pub returns-then-run-lt-LANES-clause-place : goal.returns-then-run-lt-LANES-clause-place
returns-then-run-lt-LANES-clause-place c =
    let run = c.digits_run-run in
    first_found (λ b. not (is_ascii_digit b)) c.args.bytes.now (c.loop-at.at + run.result) (omega arith) (none_more (λ b. not (is_ascii_digit b)) c.args.bytes.now c.loop-at.at 8 run.result c.loop-at.invariant.0 run.ensures) (run.ensures.passes (omega arith))

pub returns-then-run-lt-HALF-clause-place : goal.returns-then-run-lt-HALF-clause-place
returns-then-run-lt-HALF-clause-place c =
    let run = c.digits_half-run in
    first_found (λ b. not (is_ascii_digit b)) c.args.bytes.now (c.loop-at.at + run.result) (omega arith) (none_more (λ b. not (is_ascii_digit b)) c.args.bytes.now c.loop-at.at 4 run.result c.loop-at.invariant.0 run.ensures) (run.ensures.passes (omega arith))

pub digits_tail-requires-2-clause-before : goal.digits_tail-requires-2-clause-before
digits_tail-requires-2-clause-before c =
    let run = c.digits_half-run in
    all_more (λ b. not (is_ascii_digit b)) c.args.bytes.now c.loop-at.at 4 run.result c.loop-at.invariant.0 run.ensures (omega arith)

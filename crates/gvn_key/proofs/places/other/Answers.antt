use Rattle.std.proofs.Common.{◌+◌, not, sym, ap, ◌∙◌, arith}
use Rattle.std.specs.Char.{is_ascii_alphanumeric}
use Rattle.gvn_key.proofs.Firsts.{first_found, none_found, none_more, one_more, all_more}
use Rattle.gvn_key.proofs.places.other.Goals as goal

pub loop-at-preserved : goal.loop-at-preserved
loop-at-preserved c =
    let run = c.letters_run-run in
    (all_more (λ b. not (is_ascii_alphanumeric b)) c.args.bytes.now c.loop-at.at 8 run.result c.loop-at.invariant.0 run.ensures (omega arith), omega arith)

pub loop-at-2-preserved : goal.loop-at-2-preserved
loop-at-2-preserved c = (one_more (λ b. not (is_ascii_alphanumeric b)) c.args.bytes.now c.loop-at-2.at c.loop-at-2.invariant.0 (ap not (sym c.is_ascii_alphanumeric.ensures.value ∙ c.if-not-is_ascii_alphanumeric.false)), omega arith)

pub returns-then-run-lt-LANES-clause-place : goal.returns-then-run-lt-LANES-clause-place
returns-then-run-lt-LANES-clause-place c =
    let run = c.letters_run-run in
    first_found (λ b. not (is_ascii_alphanumeric b)) c.args.bytes.now (c.loop-at.at + run.result) (omega arith) (none_more (λ b. not (is_ascii_alphanumeric b)) c.args.bytes.now c.loop-at.at 8 run.result c.loop-at.invariant.0 run.ensures) (run.ensures.passes (omega arith))

pub returns-then-not-is_ascii_alphanumeric-clause-place : goal.returns-then-not-is_ascii_alphanumeric-clause-place
returns-then-not-is_ascii_alphanumeric-clause-place c = first_found (λ b. not (is_ascii_alphanumeric b)) c.args.bytes.now c.loop-at-2.at (omega arith) c.loop-at-2.invariant.0 (ap not (sym c.is_ascii_alphanumeric.ensures.value ∙ c.if-not-is_ascii_alphanumeric.true))

pub returns-clause-place : goal.returns-clause-place
returns-clause-place c = none_found (λ b. not (is_ascii_alphanumeric b)) c.args.bytes.now c.loop-at-2.at (omega arith) c.loop-at-2.invariant.0

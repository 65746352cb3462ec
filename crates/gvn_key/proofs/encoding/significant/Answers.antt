use Rattle.std.proofs.Common.{◌∙◌, arith}
use Rattle.global_defs.proofs.Digits.{significant_less, significant_done, significant_none}
use Rattle.gvn_key.proofs.encoding.significant.Goals.{then-loop-end-test+else-digits-end-eq48, else-loop-end-test}
use Rattle.gvn_key.proofs.encoding.significant.Goals as goal

pub loop-end-preserved : goal.loop-end-preserved
loop-end-preserved c = record {
  within = omega arith;
  same = significant_less c.args.digits.now c.loop-end.end (omega arith) (omega arith) c.if-digits-end-eq48.true ∙ c.loop-end.invariant.same;
}

pub returns : goal.returns
returns c = elim c.loop-end-test.branch [
  | then-loop-end-test+else-digits-end-eq48 w ↦
      significant_done c.args.digits.now c.loop-end.end (omega arith) c.loop-end.invariant.within w.if-digits-end-eq48.false ∙ c.loop-end.invariant.same
  | else-loop-end-test w ↦ significant_none c.args.digits.now c.loop-end.end (omega arith) ∙ c.loop-end.invariant.same
]

use Rattle.std.proofs.Common.{◌≡◌, take}
use Rattle.gvn_model.proofs.statements.copy_answers.Given as goal

abbrev pub invariant-loop-answer : goal.invariant-loop-answer
invariant-loop-answer l = l.made.items ≡ take l.answer-index l.answers

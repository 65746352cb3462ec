use Rattle.std.proofs.Common.{◌≡◌, ◌≢◌, ◌-◌, get_or, length, arith}
use Rattle.repl_script.proofs.LineEnds.{return_taken, return_none}
use Rattle.repl_script.proofs.parts.before_return.Goals as goal

pub returns-in-13-clause-value : goal.returns-in-13-clause-value
returns-in-13-clause-value c = let text = c.args.text.now in let e : get_or text (length text - 1) 0 ≡ 13 = omega arith in return_taken text c.in-13.len_at_least e

pub returns-in_default-2-clause-value : goal.returns-in_default-2-clause-value
returns-in_default-2-clause-value c = let text = c.args.text.now in let e : get_or text (length text - 1) 0 ≢ 13 = omega arith in return_none text e

use Rattle.std.proofs.Common.{sym}
use Rattle.gvn_key.proofs.key.Key.decode.Goals as goal

pub of_code-requires : goal.of_code-requires
of_code-requires c = c.is_code.ensures.0 c.if-is_code.true

pub returns-else-is_code : goal.returns-else-is_code
returns-else-is_code c = λ key h e. let t = c.is_code.ensures.1 (key, h, sym e) in let f = c.if-is_code.false in cc

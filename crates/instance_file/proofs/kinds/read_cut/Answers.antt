use Rattle.repl_fields.proofs.Chains.{double, word, behind}
use Rattle.instance_file.proofs.Bodies.{no_cut}
use Rattle.instance_file.proofs.kinds.read_cut.Goals as goal

pub returns-in_err-generation : goal.returns-in_err-generation
returns-in_err-generation c = rw c.from_residual-in_err-generation.ensures (no_cut _ (behind double word _ _ _ c.in_ok-length.ensures c.in_err-generation.ensures))

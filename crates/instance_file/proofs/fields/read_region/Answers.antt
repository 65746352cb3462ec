use Rattle.repl_fields.proofs.Chains.{site, truth, behind}
use Rattle.instance_file.proofs.fields.read_region.Goals as goal

pub returns-in_err-before : goal.returns-in_err-before
returns-in_err-before c = rw c.from_residual-in_err-before.ensures (λ x rest form e. behind site truth _ _ _ c.in_ok-name.ensures c.in_err-before.ensures (x.name, x.before) rest (form, tt) e)

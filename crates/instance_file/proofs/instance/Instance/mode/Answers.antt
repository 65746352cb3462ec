use Rattle.instance_file.proofs.Mores.{mode_more}
use Rattle.instance_file.proofs.instance.Instance.mode.Goals as goal

pub append-requires-clause-order : goal.append-requires-clause-order
append-requires-clause-order g c order = mode_more c.args.self.now.records c.args.region c.args.before c.requires.created order

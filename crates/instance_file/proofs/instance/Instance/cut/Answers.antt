use Rattle.instance_file.proofs.Mores.{cut_more}
use Rattle.instance_file.proofs.instance.Instance.cut.Goals as goal

pub append-requires-clause-order : goal.append-requires-clause-order
append-requires-clause-order g c order = cut_more c.args.self.now.records c.args.n c.args.generation c.requires.created c.requires.past order

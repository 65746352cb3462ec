use Rattle.block_fmt.proofs.Lists.{rest_from}
use Rattle.block_fmt.proofs.bytes.bytes_from.Goals as goal

pub returns : goal.returns
returns c = rest_from c.args.bytes.now c.args.at

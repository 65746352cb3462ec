use Rattle.block_fmt.proofs.Lists.{rest_from}
use Rattle.block_fmt.proofs.places.places_from.Goals as goal

pub returns : goal.returns
returns c = rest_from c.args.places.now c.args.i

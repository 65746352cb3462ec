use Rattle.std.proofs.lemmas.List.{take-replicate}
use Rattle.gvn_key.proofs.decode.zeros.Goals as goal

pub returns : goal.returns
returns c = take-replicate c.args.count 36 48 c.requires

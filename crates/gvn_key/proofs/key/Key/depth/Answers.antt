use Rattle.std.proofs.Common.{sym}
use Rattle.gvn_key.proofs.key.Key.depth.Goals as goal

pub returns : goal.returns
returns c = c.depth.ensures c.args.self.now.subs c.subs_code.ensures.valid (sym c.subs_code.ensures.value)

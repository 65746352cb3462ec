use Rattle.std.proofs.Common.{rules}
use Rattle.entry_index.proofs.Thinning.{keeps_none}
use Rattle.entry_index.proofs.kept.Kept.none.Goals as goal

pub returns : goal.returns
returns c files instance lowest region n = keeps_none files instance lowest region n _ (search rules) (search rules)

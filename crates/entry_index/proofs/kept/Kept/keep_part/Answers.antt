use Rattle.entry_index.proofs.Thinning.{keeps_dropped}
use Rattle.entry_index.proofs.kept.Kept.keep_part.Goals as goal

pub returns-then-self-part : goal.returns-then-self-part
returns-then-self-part c files instance lowest region n before x settled drawn is k = keeps_dropped files instance lowest region n c.args.self.now c.args.part.now before x c.if-self-part.true (settled c.if-settled.true) drawn is k

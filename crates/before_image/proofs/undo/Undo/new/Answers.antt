use Rattle.before_image.proofs.OldestImages.{seen_none}
use Rattle.before_image.proofs.undo.Undo.new.Goals as goal

pub returns : goal.returns
returns c = seen_none c.args.blocks c.new.result c.new.ensures.empty

use Rattle.std.proofs.Common.{◌∙◌, ap}
use Rattle.repl_link.specs.Items.{is_end}
use Rattle.repl_link.proofs.ItemLists.{plain_at}
use Rattle.repl_link.proofs.items.copy_all.Goals as goal

pub byte-requires : goal.byte-requires
byte-requires c = ap is_end c.index-items-i.is ∙ plain_at c.args.items.now c.loop-i.i c.index-items-i.result c.loop-i-test.true c.requires.plain

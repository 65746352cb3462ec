use Rattle.std.proofs.Common.{◌∙◌}
use Rattle.repl_wire.proofs.Begun.{bodied_awaited}
use Rattle.repl_wire.proofs.bodies.body_length_begun.Goals as goal

pub returns : goal.returns
returns c = rw c.new.ensures (bodied_awaited c.args.kind c.from.result c.from-2.result (c.from.ensures ∙ c.body_lengths-least.ensures.least) (c.from-2.ensures ∙ c.body_lengths-least.ensures.most))

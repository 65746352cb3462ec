use Rattle.std.proofs.Common.{ap, ◌∙◌}
use Rattle.wire_defs.specs.Frames.{Reading}
use Rattle.repl_wire.proofs.Wholes.{begins_fresh}
use Rattle.repl_wire.proofs.frames.Frames.feed_first.Goals as goal

pub returns-clause-partial : goal.returns-clause-partial
returns-clause-partial c =
    begins_fresh c.in_ok-tail.tail.scan c.self.inside.rest.items c.in_ok-tail.tail.rest.now c.extend_from_slice.new.self.items (ap (λ (v : Reading). v.rest) c.self.view_is ∙ c.requires.none) c.in_ok-extend_from_slice.ensures.items c.in_ok-tail.ensures.within

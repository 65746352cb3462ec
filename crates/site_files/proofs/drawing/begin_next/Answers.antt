use Rattle.std.proofs.Common.{rules}
use Rattle.site_files.proofs.drawing.begin_next.Goals as goal

pub returns-clause-added : goal.returns-clause-added
returns-clause-added g c = (c.in_ok-made.made, search rules, c.in_ok-made.ensures.ready, c.in_ok-made.ensures.place, c.in_ok-made.ensures.state)

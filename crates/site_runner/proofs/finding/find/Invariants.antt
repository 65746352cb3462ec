use Rattle.std.proofs.Common.{◌≡◌, take, None}
use Rattle.site_defs.specs.Lists.{first_where}
use Rattle.site_runner.specs.Sites.{is_slot_named}
use Rattle.site_runner.proofs.finding.find.Given as goal

abbrev pub invariant-loop-i : goal.invariant-loop-i
invariant-loop-i g l = first_where (is_slot_named l.name) (take l.i l.slots) ≡ None

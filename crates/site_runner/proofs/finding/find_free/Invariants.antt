use Rattle.std.proofs.Common.{◌≡◌, take, None}
use Rattle.site_defs.specs.Lists.{first_where}
use Rattle.site_runner.specs.Sites.{is_slot_free}
use Rattle.site_runner.proofs.finding.find_free.Given as goal

abbrev pub invariant-loop-i : goal.invariant-loop-i
invariant-loop-i g l = first_where is_slot_free (take l.i (take 8 l.slots)) ≡ None

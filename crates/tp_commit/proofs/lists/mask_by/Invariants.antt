use Rattle.std.proofs.Common.{◌≡◌, ◌+◌, [], length, drop, get_or}
use Rattle.std.specs.Prelude.{nat_lt}
use Rattle.journal_defs.specs.Sequence.{REGIONS}
use Rattle.journal_defs.specs.Split.{mask_with}
use Rattle.tp_commit.specs.Parts.{mask_by}
use Rattle.tp_commit.proofs.lists.mask_by.Given as goal

-- with the regions that are left it's all of it
abbrev pub invariant-loop-region : goal.invariant-loop-region
invariant-loop-region l = l.mask + mask_with (λ r. nat_lt 0 (length (get_or l.lists r []))) (drop l.region REGIONS) ≡ mask_by l.lists

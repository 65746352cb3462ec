use Rattle.std.proofs.Common.{◌≤◌, ◌+◌, [], ◌∷◌, ℕ, List, length, take, sym, arith, length-take}
use Rattle.disk_defs.specs.Disk.{Files}
use Rattle.disk_defs.proofs.Told.{told_at}
use Rattle.disk_tests.proofs.disks.has.Goals as goal

-- what the buffer begins with
abbrev zeros : List ℕ
zeros = 0 ∷ 0 ∷ 0 ∷ 0 ∷ 0 ∷ 0 ∷ 0 ∷ 0 ∷ 0 ∷ 0 ∷ 0 ∷ 0 ∷ 0 ∷ 0 ∷ 0 ∷ 0 ∷ []

pub read_at-requires : goal.read_at-requires
read_at-requires c = told_at _ _ (λ (files : Files). 0 + length (take c.in_ok-n.n zeros) ≤ length (files c.args.file)) (sym c.len.ensures.reads.content) (omega (arith, c.in_ok-n.ensures.length, length-take c.in_ok-n.n zeros))

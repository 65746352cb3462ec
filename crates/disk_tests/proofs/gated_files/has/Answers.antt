use Rattle.std.proofs.Common.{◌≡◌, ◌≤◌, ◌+◌, [], ◌∷◌, ℕ, List, length, take, sym, arith, length-take}
use Rattle.disk_defs.specs.Disk.{Files}
use Rattle.disk_defs.proofs.Told.{told_at, weaker_told}
use Rattle.disk_tests.proofs.gated_files.has.Goals as goal

-- what the buffer begins with
abbrev zeros : List ℕ
zeros = 0 ∷ 0 ∷ 0 ∷ 0 ∷ 0 ∷ 0 ∷ 0 ∷ 0 ∷ 0 ∷ 0 ∷ 0 ∷ 0 ∷ 0 ∷ 0 ∷ 0 ∷ 0 ∷ []

pub read_at-requires : goal.read_at-requires
read_at-requires g c =
    let n = c.in_ok-n.n in
    told_at _ _ (λ (files : Files). 0 + length (take n zeros) ≤ length (files 0)) (sym c.len.ensures.reads.content)
    (weaker_told _ (λ files. n ≡ length (files 0)) (λ files. 0 + length (take n zeros) ≤ length (files 0)) c.in_ok-n.ensures.length (λ files is. omega (arith, is, length-take n zeros)))

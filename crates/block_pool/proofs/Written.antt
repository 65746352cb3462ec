-- A file with a block more written.
use Rattle.std.proofs.Common.{◌≡◌, ℕ, ◌+◌, ◌*◌, ◌≤◌, List, ◌++◌, length, take, drop, ◌∙◌, ap, arith, length-drop, append_assoc}
use Rattle.std.proofs.lemmas.List.{length-take, length-take-le, drop_at, take-append-le, take_all}
use Rattle.disk_defs.specs.Disk.{written}
use Rattle.journal_defs.specs.Epochs.{block_of}

pub block_of-written : (old bytes : List ℕ) (b : ℕ) → length bytes ≡ 4096 → 4096 * b ≤ length old → block_of (written old (4096 * b) bytes) b ≡ bytes
block_of-written old bytes b size inside =
    let at = 4096 * b in
    let rest = drop (at + length bytes) old in
    let behind : drop at (take at old ++ bytes ++ rest) ≡ bytes ++ rest = ap (drop at) (append_assoc (take at old) bytes rest) ∙ drop_at (take at old) (bytes ++ rest) at (length-take-le at old inside) in
    ap (take 4096) behind ∙ take-append-le 4096 bytes rest (omega arith) ∙ take_all 4096 bytes (omega arith)

-- a block that is whole ends in the file
pub block_inside : (file : List ℕ) (b : ℕ) → length (block_of file b) ≡ 4096 → 4096 * b + 4096 ≤ length file
block_inside file b size = omega (arith, size, length-take 4096 (drop (4096 * b) file), length-drop (4096 * b) file)

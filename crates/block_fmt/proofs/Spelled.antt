-- The bytes of a block.
use Rattle.std.proofs.Common.{◌≡◌, ℕ, ◌-◌, List, ◌++◌, length, replicate, ◌∙◌, ap, arith, length-append}
use Rattle.std.proofs.lemmas.List.{length-replicate}
use Rattle.std.specs.Int.{to_be_bytes, w16, w32}
use Rattle.journal_defs.specs.Leaves.{Leaf, cell_bytes, spelled_leaf, IsLeaf, IsBlock}

pub length-spelled_leaf : (l : Leaf) → IsLeaf l → length (spelled_leaf l) ≡ 4096
length-spelled_leaf l form =
    let a : List ℕ = cell_bytes l in
    let zeros = replicate {A = ℕ} (4088 - length a) 0 in
    let fits = form.fits in
    omega (arith, fits, length-append a zeros, length-replicate {A = ℕ} (4088 - length a) 0, length-append (to_be_bytes w32 l.next) (a ++ zeros), length-append (to_be_bytes w16 (length a)) (to_be_bytes w32 l.next ++ (a ++ zeros)), length-append (to_be_bytes w16 (length l.cells)) (to_be_bytes w16 (length a) ++ (to_be_bytes w32 l.next ++ (a ++ zeros))))

pub length-block : (bytes : List ℕ) (l : Leaf) → IsBlock bytes l → length bytes ≡ 4096
length-block bytes l block = ap length block.spelled ∙ length-spelled_leaf l block.form

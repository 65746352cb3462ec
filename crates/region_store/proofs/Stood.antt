-- Blocks in a pool, and those of an image state.
use Rattle.std.proofs.Common.{◌≡◌, ℕ, ◌<◌, ◌≤◌, List, [], length, Option, Some, None, unwrap_or, sym, ap, ◌∙◌, arith}
use Rattle.std.proofs.lemmas.Bool.Decides.{nat_tests}
use Rattle.std.proofs.lemmas.Option.{slice_get-get_or, slice_get_past}
use Rattle.std.specs.Option.{option_map}
use Rattle.journal_defs.specs.Epochs.{Blocks, Chosen, image_state}
use Rattle.journal_defs.specs.Leaves.{spelled_leaf}
use Rattle.block_fmt.specs.Cells.{blank}
use Rattle.block_pool.specs.Code.{Pool}
use Rattle.block_pool.specs.Pool.{leaf_at}
use Rattle.gvt_leaf.specs.Stored.{blocks_in}

pub block_there : (p : Pool) (b : ℕ) → b < length p.leaves → blocks_in p.leaves b ≡ Some (spelled_leaf (leaf_at p b))
block_there p b low = ap (option_map spelled_leaf) (slice_get-get_or p.leaves b blank low)

pub none_there : (p : Pool) (b : ℕ) → length p.leaves ≤ b → blocks_in p.leaves b ≡ None
none_there p b far = ap (option_map spelled_leaf) (slice_get_past p.leaves b far)

pub not_both : {X : Type 0} (o : Option X) (x : X) → o ≡ None → o ≡ Some x → ⊥
not_both o x none some = let no : None ≡ Some x = sym none ∙ some in cc

pub same_bytes : (o : Option (List ℕ)) (x y : List ℕ) → o ≡ Some x → o ≡ Some y → x ≡ y
same_bytes o x y p q = ap (λ (r : Option (List ℕ)). unwrap_or r []) (sym p ∙ q)

pub state_past : (e : Chosen) (file : Blocks) (b : ℕ) → e.blocks ≤ b → 1 ≤ b → image_state e file b ≡ None
state_past e file b far behind = grind (arith, nat_tests)

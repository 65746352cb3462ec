-- Bytes behind a front that they share compare as they would without it.
use Rattle.std.proofs.Common.{◌≡◌, ℕ, ◌<◌, List, [], ◌∷◌, ◌++◌, refl, ◌∙◌}
use Rattle.std.specs.declared.cmp.Ordering.TheVariants.{Less, Equal}
use Rattle.std.specs.Ordering.{nat_cmp}
use Rattle.std.specs.Cmp.Lexicographic.{slice_cmp}
use Rattle.global_defs.proofs.Ranks.{less, equal}

pub same_front : (front xs ys : List ℕ) → slice_cmp nat_cmp (front ++ xs) (front ++ ys) ≡ slice_cmp nat_cmp xs ys
same_front [] xs ys = refl
same_front (x ∷ front) xs ys = rw (equal x x refl) (same_front front xs ys)

pub less_behind : (front : List ℕ) (a b : ℕ) (xs ys : List ℕ) → a < b → slice_cmp nat_cmp (front ++ a ∷ xs) (front ++ b ∷ ys) ≡ Less
less_behind front a b xs ys below = same_front front (a ∷ xs) (b ∷ ys) ∙ rw (less a b below) refl

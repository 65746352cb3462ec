-- Counts of one or none.
use Rattle.std.proofs.Common.{◌≡◌, ◌≤◌, ◌+◌, ℕ, Bool, true, false, Option, Some, None, is_some, if◌then◌else◌, refl, arith}
use Rattle.std.specs.Int.{from_bool}
use Rattle.std.specs.Option.{option_copied}
use Rattle.std.specs.Borrow.{Bor}
use Rattle.gvt_leaf.specs.Links.{one_if}

pub byte_is : (b : Bool) → from_bool b ≡ one_if b
byte_is true = refl
byte_is false = refl

pub copied_some : {A : Type 0} (o : Option (Bor A)) → is_some o ≡ is_some (option_copied o)
copied_some None = refl
copied_some (Some x) = refl

pub small_sum : (a b : Bool) (x y : ℕ) → x ≡ one_if a → y ≡ (if b then 10 else 0) → x + y ≤ 11
small_sum true true x y p q = omega (arith, p, q)
small_sum true false x y p q = omega (arith, p, q)
small_sum false true x y p q = omega (arith, p, q)
small_sum false false x y p q = omega (arith, p, q)

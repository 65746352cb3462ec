-- What is told of an option where it is known.
use Rattle.std.proofs.Common.{◌≡◌, Option, Some, None, IfSome, IfNone, subst}

pub some_told : {A : Type 0} {r : Option A} (P : A → Type 0) (x : A) → r ≡ Some x → IfSome r P → P x
some_told P x is told = subst (λ o. IfSome o P) is told

pub none_told : {A : Type 0} {r : Option A} (P : Type 0) → r ≡ None → IfNone r P → P
none_told P is told = subst (λ o. IfNone o P) is told
